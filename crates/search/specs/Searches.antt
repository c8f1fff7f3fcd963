-- What the calls promise. `lists`, `goal` and `chosen` are a graph's as it lies in the memory, n is how many places it has.
use Rattle.std.specs.Prelude.{◌≡◌, ℕ, ◌+◌, ◌-◌, ◌<◌, ◌≤◌, Bool, true, false, ◌≢◌, ◌⊎◌, List, length, take, Ok, Err, Option, Result, MatchOption, slice_index}
use Rattle.circuits.specs.Answers.{number_of}
use Rattle.circuits.specs.declared.answer.Refusal.{Refusal}
use Rattle.search.specs.Graphs.{Meaning, row, Step, Reaches}
use Rattle.search.specs.Rows.{mark, stacked, needed, Kept}
use Rattle.search.specs.declared.Found.{Found}

-- exactly what steps reach is marked
pub record Marked (lists : List (List ℕ)) (chosen : ℕ → Bool) (base n : ℕ) (m : List ℕ) : Type 0 where
  pub sound : (p : ℕ) → p < n → 0 < mark base m p → Reaches n lists chosen p
  pub complete : (p : ℕ) → Reaches n lists chosen p → (p < n) × (0 < mark base m p)

-- exactly what steps reach is marked, and no goal is reached
pub record Missed (lists : List (List ℕ)) (goal chosen : ℕ → Bool) (base n : ℕ) (m : List ℕ) : Type 0 where
  pub marks : Marked lists chosen base n m
  pub none : (p : ℕ) → Reaches n lists chosen p → goal p ≡ false

-- the h places on the stack are distinct, the first is chosen, and a step leads to each from the one before
pub record Path (lists : List (List ℕ)) (chosen : ℕ → Bool) (base n : ℕ) (m : List ℕ) (h : ℕ) : Type 0 where
  pub first : 0 < h → chosen (stacked base n m 0) ≡ true
  pub steps : (k : ℕ) → k + 1 < h → Step lists (stacked base n m k) (stacked base n m (k + 1))
  pub apart : (j k : ℕ) → j < k → k < h → stacked base n m j ≢ stacked base n m k

-- a path to a goal is on the stack
pub record Reached (lists : List (List ℕ)) (goal chosen : ℕ → Bool) (base n : ℕ) (m : List ℕ) (h : ℕ) : Type 0 where
  pub some : 0 < h
  pub below : (k : ℕ) → k < h → stacked base n m k < n
  pub path : Path lists chosen base n m h
  pub last : goal (stacked base n m (h - 1)) ≡ true

-- p is marked, and had no mark among the old ones
abbrev pub Fresh : (ℕ → ℕ) → ℕ → List ℕ → ℕ → Type 0
Fresh old base m p = (old p ≡ 0) × (0 < mark base m p)

-- the first i steps of p lead to marked places
abbrev pub Led : List (List ℕ) → ℕ → List ℕ → ℕ → ℕ → Type 0
Led lists base m p i = (j : ℕ) → j < i → j < length (row lists p) → 0 < mark base m (slice_index (row lists p) j)

-- p is no goal, and all its steps lead to marked places
pub record Done (lists : List (List ℕ)) (goal : ℕ → Bool) (base : ℕ) (m : List ℕ) (p : ℕ) : Type 0 where
  pub plain : goal p ≡ false
  pub led : Led lists base m p (length (row lists p))

-- p is one of the h places on the stack
abbrev pub OnStack : ℕ → ℕ → List ℕ → ℕ → ℕ → Type 0
OnStack base n m h p = (k : ℕ) × (k < h) × (stacked base n m k ≡ p)

-- the old marks stay, and each fresh place is reached, and is on the stack or done
pub record Spread (lists : List (List ℕ)) (goal chosen : ℕ → Bool) (base n : ℕ) (old : ℕ → ℕ) (m : List ℕ) (h : ℕ) : Type 0 where
  pub stays : (p : ℕ) → p < n → 0 < old p → 0 < mark base m p
  pub reached : (p : ℕ) → p < n → Fresh old base m p → Reaches n lists chosen p
  pub closed : (p : ℕ) → p < n → Fresh old base m p → OnStack base n m h p ⊎ Done lists goal base m p

-- the chosen places from `from` on, below `end`, are marked
abbrev pub Served : (ℕ → Bool) → ℕ → List ℕ → ℕ → ℕ → Type 0
Served chosen base m from end = (p : ℕ) → from ≤ p → p < end → chosen p ≡ true → 0 < mark base m p

-- a path to a goal is on the stack, all of fresh places; the search goes on from the chosen places at `next`, one past the path's first place
pub record Stopped (lists : List (List ℕ)) (goal chosen : ℕ → Bool) (base n : ℕ) (old : ℕ → ℕ) (m : List ℕ) (from h next : ℕ) : Type 0 where
  pub reached : Reached lists goal chosen base n m h
  pub fresh : (k : ℕ) → k < h → Fresh old base m (stacked base n m k)
  pub spread : Spread lists goal chosen base n old m h
  pub begun : next ≡ stacked base n m 0 + 1
  pub further : from < next
  pub within : next ≤ n
  pub served : Served chosen base m from next

-- steps lead from a chosen place below n, `from` or more, to q, over places without an old mark, q counted
pub data ReachesPast (n : ℕ) (lists : List (List ℕ)) (chosen : ℕ → Bool) (old : ℕ → ℕ) (from : ℕ) : ℕ → Type 0 where
  start_past : {q : ℕ} → from ≤ q → q < n → chosen q ≡ true → old q ≡ 0 → ReachesPast n lists chosen old from q
  onward_past : {p q : ℕ} → ReachesPast n lists chosen old from p → Step lists p q → old q ≡ 0 → ReachesPast n lists chosen old from q

-- no goal is reached past the old marks: each fresh place is done, and the chosen places from `from` on are marked
pub record Exhausted (lists : List (List ℕ)) (goal chosen : ℕ → Bool) (base n : ℕ) (old : ℕ → ℕ) (m : List ℕ) (from : ℕ) : Type 0 where
  pub spread : Spread lists goal chosen base n old m 0
  pub done : (p : ℕ) → p < n → Fresh old base m p → Done lists goal base m p
  pub served : Served chosen base m from n
  pub none : (p : ℕ) → ReachesPast n lists chosen old from p → goal p ≡ false

-- a path to a goal is on the stack; the search goes on from the chosen places at `next`, one past the path's first place, and those before, from `from` on, are marked
pub record Met (lists : List (List ℕ)) (goal chosen : ℕ → Bool) (base n : ℕ) (m : List ℕ) (from h next : ℕ) : Type 0 where
  pub reached : Reached lists goal chosen base n m h
  pub begun : next ≡ stacked base n m 0 + 1
  pub within : next ≤ n
  pub served : Served chosen base m from next

-- a call that needs so many numbers is refused by 11 where the memory is shorter, and leaves it as it was; else its answer is as told
abbrev pub UnlessShort : {A : Type 0} → ℕ → List ℕ → List ℕ → (A → Type 0) → Result A Refusal → Type 0
UnlessShort need before after told (Ok v) = (need ≤ length before) × told v
UnlessShort need before after told (Err e) = (length before < need) × (number_of e ≡ 11) × (after ≡ before)

-- only the three rows are written
abbrev pub RowsOnly : Meaning → List ℕ → List ℕ → Type 0
RowsOnly t before after = Kept t.extent (needed t) before after

-- `mark_reached`: exactly what steps reach is marked
abbrev pub MarksReached : Meaning → List ℕ → List ℕ → Result Unit Refusal → Type 0
MarksReached t before after r =
    let f = take t.extent before in
    UnlessShort (needed t) before after (λ _. RowsOnly t before after × Marked (t.steps f) (t.chosen f) t.extent t.many after) r

-- how a search ends, by what a found path and its absence say
abbrev pub Ends : (ℕ → ℕ → Type 0) → Type 0 → Option Found → Type 0
Ends found nothing o = MatchOption o nothing (λ f. found f.length f.next)

-- `find`: as if no place had been marked, a path to a goal, or none is reached
abbrev pub Finds : Meaning → List ℕ → List ℕ → Result (Option Found) Refusal → Type 0
Finds t before after r =
    let f = take t.extent before in
    UnlessShort (needed t) before after
    (λ o. RowsOnly t before after
    × Ends (λ h next. Stopped (t.steps f) (t.goal f) (t.chosen f) t.extent t.many (λ _. 0) after 0 h next)
    (Missed (t.steps f) (t.goal f) (t.chosen f) t.extent t.many after) o)
    r

-- `find_further`: a path to a goal past the marks that it meets, from the chosen places from `from` on, or none is left that way
abbrev pub FindsFurther : Meaning → List ℕ → List ℕ → ℕ → Result (Option Found) Refusal → Type 0
FindsFurther t before after from r =
    let f = take t.extent before in
    UnlessShort (needed t) before after
    (λ o. RowsOnly t before after
    × Ends (λ h next. Stopped (t.steps f) (t.goal f) (t.chosen f) t.extent t.many (mark t.extent before) after from h next)
    (Exhausted (t.steps f) (t.goal f) (t.chosen f) t.extent t.many (mark t.extent before) after from) o)
    r

-- `find_or_exhaust`: a path to a goal, or none is reached, whatever marks it meets
abbrev pub FindsAny : Meaning → List ℕ → List ℕ → ℕ → Result (Option Found) Refusal → Type 0
FindsAny t before after from r =
    let f = take t.extent before in
    UnlessShort (needed t) before after
    (λ o. RowsOnly t before after
    × Ends (λ h next. Met (t.steps f) (t.goal f) (t.chosen f) t.extent t.many after from h next)
    (Missed (t.steps f) (t.goal f) (t.chosen f) t.extent t.many after) o)
    r
