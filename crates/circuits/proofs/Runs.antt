-- A level run, as far as it has come.
use Rattle.std.proofs.Common.{◌≡◌, ℕ, ◌+◌, ◌-◌, ◌<◌, ◌≤◌, true, false, Some, cond, ◌&&◌, ◌||◌, ltb, leb, eqb, List, [], ◌∷◌, ◌++◌, length, get_or, take, drop, set, sym, refl, ap, ◌∙◌, subst, arith, below_more}
use Rattle.std.specs.List.{slice_get}
use Rattle.std.specs.Option.{option_eq}
use Rattle.std.proofs.lemmas.List.{drop_more, drop-drop, length-drop, length-take-le, length-set, take_more_set, take_all, drop-set-lt, get_or-set_same, get_or-set_other}
use Rattle.std.proofs.lemmas.Bool.{and_parts, le-ltb, eq-eqb, eqb-true, eqb-false, ne_eqb, cond-true, cond-false}
use Rattle.circuits.specs.Growths.{Tables, Level}
use Rattle.circuits.specs.Levels.{Rules, own, has, outgoing, run_from, produced_at, plan_fits}
use Rattle.circuits.specs.declared.making.Making.{Making}
use Rattle.circuits.specs.declared.making.Making.TheVariants.{Input}
use Rattle.circuits.proofs.Plans.{has_below, fits_later}

-- the first k outgoing levels are in the memory, and `due` is what is left of the plan
pub record Going (ms : List Making) (r : Rules) (plan before memory : List ℕ) (k : ℕ) (due : List ℕ) : Type 0 where
  pub size : length memory ≡ length before
  pub rest : drop k memory ≡ drop k before
  pub so_far : run_from r plan (take k memory) (drop k ms) ≡ run_from r plan [] ms
  pub levels : (j : ℕ) → j < k → Level (get_or memory j 0)
  pub ahead : plan_fits ms k due ≡ true
  pub same : (j : ℕ) → k ≤ j → has j plan ≡ has j due

module _ (ms : List Making) (r : Rules) (plan before memory : List ℕ) (k : ℕ) (due : List ℕ) (going : Going ms r plan before memory k due) where
  module _ (level : ℕ) (is : level ≡ own r.growth (take k memory) (get_or ms k Input)) (within : k < length ms) (fits : k < length memory) where
    long : length (take k memory) ≡ k
    long = length-take-le k memory (omega arith)

    unrolled : run_from r plan [] ms ≡ cond (ltb r.limit level) (record { answer = Some (record { rank = k; level = level }); levels = take k memory }) (run_from r plan (take k memory ++ (outgoing r plan k level ∷ [])) (drop (k + 1) ms))
    unrolled =
        sym going.so_far ∙ ap (run_from r plan (take k memory)) (drop_more ms k Input within)
        ∙ rw (← is, long)

    -- one level more, v
    module _ (low : level ≤ r.limit) (v : ℕ) (out : outgoing r plan k level ≡ v) (good : Level v) where
      more_so_far : run_from r plan (take (k + 1) (set memory k v)) (drop (k + 1) ms) ≡ run_from r plan [] ms
      more_so_far =
          ap (λ xs. run_from r plan xs (drop (k + 1) ms)) (take_more_set memory k v fits ∙ ap (λ x. take k memory ++ (x ∷ [])) (sym out))
          ∙ sym (unrolled ∙ cond-false (ltb r.limit level) _ _ (le-ltb r.limit level low))

      more_rest : drop (k + 1) (set memory k v) ≡ drop (k + 1) before
      more_rest = drop-set-lt (k + 1) memory k v (omega arith) ∙ sym (drop-drop 1 k memory) ∙ ap (drop 1) going.rest ∙ drop-drop 1 k before

      more_levels : (j : ℕ) → j < k + 1 → Level (get_or (set memory k v) j 0)
      more_levels =
          below_more _ _
          (λ j h. subst Level (sym (get_or-set_other memory k j v 0 (λ e. omega arith))) (going.levels j h))
          (subst Level (sym (get_or-set_same memory k v 0 fits)) good)

      pub going_more : (to : List ℕ) → plan_fits ms (k + 1) to ≡ true → ((j : ℕ) → k + 1 ≤ j → has j plan ≡ has j to) → Going ms r plan before (set memory k v) (k + 1) to
      going_more to ahead same = record {
        size = length-set memory k v ∙ going.size;
        rest = more_rest;
        so_far = more_so_far;
        levels = more_levels;
        ahead = ahead;
        same = same;
      }

    module _ (low : level ≤ r.limit) where
      -- a wire of the plan goes out refreshed
      pub going_refresh : (after : List ℕ) → due ≡ k ∷ after → Level r.fresh → Going ms r plan before (set memory k r.fresh) (k + 1) after
      going_refresh after e good =
          let in_plan : has k plan ≡ true = going.same k (omega arith) ∙ ap (has k) e ∙ ap (λ b. b || has k after) (eq-eqb k k refl) in
          let ahead : plan_fits ms k (k ∷ after) ≡ true = ap (plan_fits ms k) (sym e) ∙ going.ahead in
          going_more low r.fresh (cond-true (has k plan) r.fresh level in_plan) good after (and_parts (leb k k && produced_at ms k) (plan_fits ms (k + 1) after) ahead).1
          (λ j l. going.same j (omega arith) ∙ ap (has j) e ∙ ap (λ b. b || has j after) (ne_eqb k j (λ q. omega arith)))

      -- any other goes out at its own level
      pub going_keep : (0 < length due → get_or due 0 0 ≡ k → ⊥) → Level level → Going ms r plan before (set memory k level) (k + 1) due
      going_keep apart good =
          let ahead = fits_later ms k due going.ahead apart in
          let absent : has k plan ≡ false = going.same k (omega arith) ∙ has_below ms (k + 1) k due ahead (omega arith) in
          going_more low level (cond-false (has k plan) r.fresh level absent) good due ahead (λ j l. going.same j (omega arith))

-- the next rank of the plan, where it is k
pub next_due : (due : List ℕ) (k : ℕ) → option_eq eqb (slice_get due 0) (Some k) ≡ true → due ≡ k ∷ drop 1 due
next_due [] k e = cc
next_due (x ∷ xs) k e = ap (λ y. y ∷ xs) (eqb-true x k e)

pub other_due : (due : List ℕ) (k : ℕ) → option_eq eqb (slice_get due 0) (Some k) ≡ false → 0 < length due → get_or due 0 0 ≡ k → ⊥
other_due [] k e h q = omega arith
other_due (x ∷ xs) k e h q = eqb-false x k e q

-- the part `[1..]` of what is left
pub due_after : (due : List ℕ) → take (length due - 1) (drop 1 due) ≡ drop 1 due
due_after due = take_all (length due - 1) (drop 1 due) (omega (arith, length-drop 1 due))

-- the own level after the part `[..k]` of a memory
pub own_at : (t : Tables) (ms : List Making) (memory : List ℕ) (k level : ℕ) → k ≤ length memory → level ≡ own t (take k memory) (get_or ms (length (take k memory)) Input) → level ≡ own t (take k memory) (get_or ms k Input)
own_at t ms memory k level h e = e ∙ rw (length-take-le k memory h)
