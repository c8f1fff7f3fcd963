-- A whole turn of a walk, and that it makes the measure fall.
use Rattle.std.proofs.Common.{◌≡◌, ℕ, ◌+◌, ◌-◌, ◌<◌, ◌≤◌, Bool, true, false, List, length, get_or, sym, ap, ◌∙◌, subst, ⊎_elim, arith, get_or-set_other}
use Rattle.std.proofs.lemmas.Bool.{cases_eq, cases_lt}
use Rattle.search.specs.Graphs.{Step, row, Inside}
use Rattle.search.specs.Rows.{mark, stacked, tried}
use Rattle.search.specs.Searches.{Led}
use Rattle.search.specs.Walks.{pushed, moved, Passed, Turned, Walk}
use Rattle.search.specs.Walks.Turned.{popped, stepped}
use Rattle.search.proofs.Totals.{tally_room, ahead}
use Rattle.search.proofs.Writes.{stacked_old}
use Rattle.search.proofs.Walks.{walk_push, push_falls, push_tried, push_marks, push_grows, walk_pass, pass_falls, pass_grows, walk_pop}

-- the steps tried and those passed since
led_through : (lists : List (List ℕ)) (base : ℕ) (m : List ℕ) (p t i : ℕ) → Led lists base m p t → Passed lists base m p t i → Led lists base m p i
led_through lists base m p t i led passed j jl jr =
    ⊎_elim (λ (l : j < t). led j l jr) (λ (g : t ≤ j). passed j g jl) (cases_lt j t)

module _ (lists : List (List ℕ)) (goal chosen : ℕ → Bool) (base n : ℕ) (m₀ m : List ℕ) (h : ℕ) (m' : List ℕ) (r : ℕ)
    (ins : Inside n lists) (w : Walk lists goal chosen base n m₀ m h) (some : 0 < h) where
  abbrev Both : List ℕ → ℕ → Type 0
  Both x y = Walk lists goal chosen base n m₀ x y × (ahead lists base n x + y < ahead lists base n m + h) × ((p : ℕ) → p < n → 0 < mark base m p → 0 < mark base x p)

  pub turn_walk : goal (stacked base n m (h - 1)) ≡ false → Turned lists base n m h (stacked base n m (h - 1)) m' r → Both m' r
  turn_walk plain (popped passed same less) =
      let p = stacked base n m (h - 1) in
      let e : h - 1 ≡ r = omega arith in
      let led = led_through lists base m p (tried base n m p) (length (row lists p)) (w.led (h - 1) (omega arith)) passed in
      let w' : Walk lists goal chosen base n m₀ m r =
      walk_pop lists goal chosen base n m₀ m r (subst (Walk lists goal chosen base n m₀ m) (sym less) w)
      (subst (λ k. goal (stacked base n m k) ≡ false) e plain)
      (subst (λ k. Led lists base m (stacked base n m k) (length (row lists (stacked base n m k)))) e led) in
      subst (λ x. Both x r) (sym same) (w', omega arith, λ p l f. f)
  turn_walk plain (stepped i q o same grown) =
      let p = stacked base n m (h - 1) in
      let t = tried base n m p in
      let pl : p < n = w.stack.below (h - 1) (omega arith) in
      let f : 0 < mark base m p = (w.ours (h - 1) (omega arith)).1 in
      let ql : q < n = subst (λ x. x < n) o.leads (ins.leads p i pl o.high) in
      let root : h ≡ 0 → chosen q ≡ true = λ e. absurd (let z : ⊥ = omega arith in z) in
      let step : 0 < h → Step lists p q = λ _. (i, o.high, o.leads) in
      let m₁ = pushed base n m h q in
      let w₁ = walk_push lists goal chosen base n m₀ m h q ins w ql o.free root step in
      let grows = push_grows lists goal chosen base n m₀ m h q ins w ql o.free root step in
      let at = push_tried lists goal chosen base n m₀ m h q ins w ql o.free root step p pl f in
      let fall = push_falls lists goal chosen base n m₀ m h q ins w ql o.free root step in
      let before = led_through lists base m p t i (w.led (h - 1) (omega arith)) o.passed in
      let led : Led lists base m₁ p (i + 1) =
      λ j jl jr. ⊎_elim
      (λ (e : j ≡ i). subst (λ y. 0 < mark base m₁ y) (sym (ap (λ k. get_or (row lists p) k 0) e ∙ o.leads)) (push_marks lists goal chosen base n m₀ m h q ins w ql o.free root step))
      (λ (ne : j ≡ i → ⊥). grows _ (ins.leads p j pl jr) (before j (omega arith) jr))
      (cases_eq j i) in
      let w₂ = walk_pass lists goal chosen base n m₀ m₁ (h + 1) p (i + 1) ins w₁ pl led in
      let fall₂ = pass_falls lists goal chosen base n m₀ m₁ (h + 1) p (i + 1) ins w₁ pl led (grows p pl f) (omega (arith, at, o.low)) (omega (arith, at, o.low, o.high)) in
      subst (λ x. Both x r) (sym same) (subst (λ y. Both (moved base n m₁ p (i + 1)) y) (sym grown) (
        w₂,
        omega (arith, fall, fall₂),
        λ x l g. pass_grows lists goal chosen base n m₀ m₁ (h + 1) p (i + 1) ins w₁ pl led x l (grows x l g),
      ))

  -- the bottom of the stack stays
  pub turn_bottom : Turned lists base n m h (stacked base n m (h - 1)) m' r → stacked base n m' 0 ≡ stacked base n m 0
  turn_bottom (popped passed same less) = ap (λ x. stacked base n x 0) same
  turn_bottom (stepped i q o same grown) =
      let p = stacked base n m (h - 1) in
      let ql : q < n = subst (λ x. x < n) o.leads (ins.leads p i (w.stack.below (h - 1) (omega arith)) o.high) in
      let short : h < n = omega (arith, w.stack.count, tally_room base n m q ql o.free) in
      ap (λ x. stacked base n x 0) same
      ∙ get_or-set_other (pushed base n m h q) (base + n + n + p) (base + n + 0) (i + 1) 0 (omega arith)
      ∙ stacked_old base n m h q w.stack.room ql short 0 some
