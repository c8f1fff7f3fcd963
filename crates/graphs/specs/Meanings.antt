-- The two graphs of a planning over n wires, as the numbers in front of its memory mean them.
use Rattle.std.specs.Prelude.{◌≡◌, ℕ, ◌+◌, ◌*◌, ◌^◌, ◌<◌, ◌≤◌, Bool, cond, ◌&&◌, List, map, Ok, Err, Result, ◌==◌, nat_lt}
use Rattle.std.specs.List.{range_with_len}
use Rattle.circuits.specs.Answers.{number_of}
use Rattle.circuits.specs.declared.answer.Refusal.{Refusal}
use Rattle.search.specs.Graphs.{Meaning}
use Rattle.rows.specs.Rows.{cell}
use Rattle.rows.specs.Held.{bars_of}
use Rattle.flows.specs.Residual.{residual}
use Rattle.flows.specs.Found.{chosen, goal}
use Rattle.graphs.specs.Fronts.{lists_of}
use Rattle.graphs.specs.declared.residual.Side.{Side}
use Rattle.graphs.specs.declared.residual.Side.TheVariants.{Entry, Exit}
use Rattle.graphs.specs.declared.residual.Place.{Place}

-- the residual steps of the flow, from the entries of products to the exits of wires that are flagged
abbrev pub residual_graph : ℕ → Meaning
residual_graph n =
    record {
      many = 2 * n;
      extent = 13 * n;
      steps = λ f. map (residual f n (lists_of n f)) (range_with_len 0 (2 * n));
      goal = λ f. goal f n;
      chosen = λ f. chosen f n;
    }

-- the number of a side of a wire: even for its entry, odd for its exit
abbrev pub side_number : Side → ℕ → ℕ
side_number Entry w = 2 * w
side_number Exit w = 2 * w + 1

abbrev pub place_number : Place → ℕ
place_number p = side_number p.side p.wire

-- from v to w where that is a barred wire, and else back to v
abbrev pub barred_step : ℕ → List ℕ → ℕ → ℕ → ℕ
barred_step n f v w = cond (nat_lt w n && bars_of f n w) w v

-- from each wire to the barred wires that it feeds
abbrev pub barred_steps : ℕ → List ℕ → ℕ → List ℕ
barred_steps n f v = map (barred_step n f v) (lists_of n f v)

-- a barred product
abbrev pub barred_chosen : ℕ → List ℕ → ℕ → Bool
barred_chosen n f v = bars_of f n v && cell f n 0 v == 4

-- a barred wire that is flagged
abbrev pub barred_goal : ℕ → List ℕ → ℕ → Bool
barred_goal n f v = bars_of f n v && nat_lt 0 (cell f n 4 v)

-- the steps over barred wires, from barred products to barred wires that are flagged
abbrev pub barred_graph : ℕ → Meaning
barred_graph n =
    record {
      many = n;
      extent = 13 * n;
      steps = λ f. map (barred_steps n f) (range_with_len 0 n);
      goal = λ f. barred_goal n f;
      chosen = λ f. barred_chosen n f;
    }

-- refused by 14 where there are more than 2 ^ 20 wires; else a graph over so many
abbrev pub UnlessWide : {A : Type 0} → ℕ → (A → Type 0) → Result A Refusal → Type 0
UnlessWide n told (Ok v) = (n ≤ 2 ^ 20) × told v
UnlessWide n told (Err e) = (2 ^ 20 < n) × (number_of e ≡ 14)
