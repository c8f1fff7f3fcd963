-- The loop of a dive, over the graph t, from the memory m.
use Rattle.std.proofs.Common.{◌≡◌, ℕ, ◌+◌, ◌-◌, ◌*◌, ◌<◌, ◌≤◌, true, false, List, length, take, sym, ◌∙◌, subst, arith}
use Rattle.search.specs.Graphs.{Meaning, Step, Inside}
use Rattle.search.specs.Rows.{mark, stacked}
use Rattle.search.specs.Walks.{pushed, Turned, On}
use Rattle.search.proofs.Totals.{ahead}
use Rattle.search.proofs.Writes.{stacked_new}
use Rattle.search.proofs.Walks.{walk_refl, walk_push, push_marks}
use Rattle.search.proofs.Turns.{turn_walk, turn_bottom}

module _ (t : Meaning) (base n : ℕ) (m : List ℕ) (place : ℕ) (count : n ≡ t.many) (all : Inside t.many (t.steps (take base m))) (inside : place < n) where
  ins : Inside n (t.steps (take base m))
  ins = subst (λ x. Inside x (t.steps (take base m))) (sym count) all

  -- after the first push
  pub began : (m₁ : List ℕ) → base + 3 * n ≤ length m → mark base m place ≡ 0 → t.chosen (take base m) place ≡ true → m₁ ≡ pushed base n m 0 place
      → On t base n (take base m) m m₁ 1 × (0 < mark base m₁ place) × (stacked base n m₁ 0 ≡ place)
  began m₁ room free root is =
      let f = take base m in
      let w = walk_refl (t.steps f) (t.goal f) (t.chosen f) base n m room in
      let no_step : 0 < 0 → Step (t.steps f) (stacked base n m (0 - 1)) place = λ h. absurd (let z : ⊥ = omega arith in z) in
      subst (λ x. On t base n f m x 1 × (0 < mark base x place) × (stacked base n x 0 ≡ place)) (sym is) (
        walk_push (t.steps f) (t.goal f) (t.chosen f) base n m m 0 place ins w inside free (λ _. root) no_step,
        push_marks (t.steps f) (t.goal f) (t.chosen f) base n m m 0 place ins w inside free (λ _. root) no_step,
        stacked_new base n m 0 place room inside (omega arith),
      )

  -- a turn where the top is no goal
  pub going : (m₂ : List ℕ) (h : ℕ) (m₃ : List ℕ) (r : ℕ) → On t base n (take base m) m m₂ h → 0 < mark base m₂ place → 0 < h
      → false ≡ t.goal (take base m₂) (stacked base n m₂ (h - 1)) → Turned (t.steps (take base m₂)) base n m₂ h (stacked base n m₂ (h - 1)) m₃ r
      → On t base n (take base m) m m₃ r × (0 < mark base m₃ place) × (ahead (t.steps (take base m)) base n m₃ + r < ahead (t.steps (take base m)) base n m₂ + h)
  going m₂ h m₃ r w there some plain turned =
      let f = take base m in
      let e : take base m₂ ≡ f = w.kept.front in
      let one = turn_walk (t.steps f) (t.goal f) (t.chosen f) base n m m₂ h m₃ r ins w some
      (sym (subst (λ x. false ≡ t.goal x (stacked base n m₂ (h - 1))) e plain))
      (subst (λ x. Turned (t.steps x) base n m₂ h (stacked base n m₂ (h - 1)) m₃ r) e turned) in
      (one.0, one.2 place inside there, one.1)

  -- such a turn of a walk that began at the place
  pub going_from : (m₂ : List ℕ) (h : ℕ) (m₃ : List ℕ) (r : ℕ) → On t base n (take base m) m m₂ h → 0 < mark base m₂ place → stacked base n m₂ 0 ≡ place → 0 < h
      → false ≡ t.goal (take base m₂) (stacked base n m₂ (h - 1)) → Turned (t.steps (take base m₂)) base n m₂ h (stacked base n m₂ (h - 1)) m₃ r
      → On t base n (take base m) m m₃ r × (0 < mark base m₃ place) × (stacked base n m₃ 0 ≡ place) × (ahead (t.steps (take base m)) base n m₃ + r < ahead (t.steps (take base m)) base n m₂ + h)
  going_from m₂ h m₃ r w there bottom some plain turned =
      let f = take base m in
      let e : take base m₂ ≡ f = w.kept.front in
      let one = going m₂ h m₃ r w there some plain turned in
      let low = turn_bottom (t.steps f) (t.goal f) (t.chosen f) base n m m₂ h m₃ r ins w some
      (subst (λ x. Turned (t.steps x) base n m₂ h (stacked base n m₂ (h - 1)) m₃ r) e turned) in
      (one.0, one.1, low ∙ bottom, one.2)
