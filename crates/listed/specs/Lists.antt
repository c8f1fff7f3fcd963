-- A graph of n places by numbers: n flags, n + 1 offsets into the targets, and then t targets. Any numbers mean a graph.
use Rattle.std.specs.Prelude.{◌≡◌, ℕ, ◌+◌, ◌-◌, ◌*◌, ◌^◌, ◌<◌, ◌≤◌, ◌⊎◌, min, cond, List, map, length, take, Ok, Err, Result, ◌==◌, nat_lt, slice_index}
use Rattle.std.specs.List.{range_with_len}
use Rattle.circuits.specs.Answers.{number_of}
use Rattle.circuits.specs.declared.answer.Refusal.{Refusal}
use Rattle.search.specs.Graphs.{Meaning}
use Rattle.search.specs.Rows.{needed}
use Rattle.search.specs.Searches.{RowsOnly, Marked}

-- how many numbers the graph takes
abbrev pub size : ℕ → ℕ → ℕ
size n t = 2 * n + 1 + t

-- where the targets of p begin
abbrev pub start : ℕ → List ℕ → ℕ → ℕ
start n f p = slice_index f (n + p)

-- where the targets of p end, which is nowhere past the last one
abbrev pub stop : ℕ → ℕ → List ℕ → ℕ → ℕ
stop n t f p = min (slice_index f (n + p + 1)) t

-- a target that is no place leads back to p
abbrev pub led : ℕ → ℕ → ℕ → ℕ
led n p q = cond (nat_lt q n) q p

-- the step of p at i
abbrev pub step_at : ℕ → List ℕ → ℕ → ℕ → ℕ
step_at n f p i = led n p (slice_index f (2 * n + 1 + (start n f p + i)))

abbrev pub steps_of : ℕ → ℕ → List ℕ → ℕ → List ℕ
steps_of n t f p = map (step_at n f p) (range_with_len 0 (stop n t f p - start n f p))

-- a place is chosen by the flag 1, and a goal by the flag 2
abbrev pub listed : ℕ → ℕ → Meaning
listed n t =
    record {
      many = n;
      extent = size n t;
      steps = λ f. map (steps_of n t f) (range_with_len 0 n);
      goal = λ f p. (slice_index f p == 2);
      chosen = λ f p. (slice_index f p == 1);
    }

-- refused by 5 where the numbers would be 2 ^ 32 or more; else as told
abbrev pub UnlessLarge : {A : Type 0} → ℕ → (A → Type 0) → Result A Refusal → Type 0
UnlessLarge size told (Ok v) = (size < 2 ^ 32) × told v
UnlessLarge size told (Err e) = (2 ^ 32 ≤ size) × (number_of e ≡ 5)

-- what steps reach is marked; or refused by 5 where the numbers would be 2 ^ 32 or more, else by 11 where the memory is too short, and the memory is as it was
abbrev pub MarksListed : ℕ → ℕ → List ℕ → List ℕ → Result Unit Refusal → Type 0
MarksListed n t before after (Ok _) =
    (size n t < 2 ^ 32)
    × (needed (listed n t) ≤ length before)
    × RowsOnly (listed n t) before after
    × Marked ((listed n t).steps (take (size n t) before)) ((listed n t).chosen (take (size n t) before)) (size n t) n after
MarksListed n t before after (Err e) =
    (((2 ^ 32 ≤ size n t) × (number_of e ≡ 5)) ⊎ ((size n t < 2 ^ 32) × (length before < needed (listed n t)) × (number_of e ≡ 11))) × (after ≡ before)

-- what steps reach is marked and the answer is 0; or the answer is the number of the refusal, and the memory is as it was
pub record MarksByNumber (n t : ℕ) (before after : List ℕ) (r : ℕ) : Type 0 where
  pub large : 2 ^ 32 ≤ size n t → (r ≡ 5) × (after ≡ before)
  pub short : size n t < 2 ^ 32 → length before < needed (listed n t) → (r ≡ 11) × (after ≡ before)
  pub marks : size n t < 2 ^ 32 → needed (listed n t) ≤ length before
      → (r ≡ 0) × RowsOnly (listed n t) before after
      × Marked ((listed n t).steps (take (size n t) before)) ((listed n t).chosen (take (size n t) before)) (size n t) n after
