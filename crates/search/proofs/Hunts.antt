-- The loop of a hunt, and what the end of a hunt says to a caller.
use Rattle.std.proofs.Common.{◌≡◌, ℕ, ◌+◌, ◌*◌, ◌<◌, Bool, List, take, Option, Some, None, sym, refl, subst, ⊎_elim, arith}
use Rattle.search.specs.Graphs.{Meaning, goalless, Reaches, Inside}
use Rattle.search.specs.Graphs.Reaches.{start, onward}
use Rattle.search.specs.Rows.{mark, Kept}
use Rattle.search.specs.Searches.{Fresh, Done, Served, ReachesPast, Stopped, Exhausted, Marked, Missed, Ends}
use Rattle.search.specs.Searches.ReachesPast.{start_past, onward_past}
use Rattle.search.specs.Walks.{Clear, Walk, Hit, Hunted}
use Rattle.search.specs.declared.Found.{Found}
use Rattle.search.proofs.Writes.{kept_trans}

-- a walk that stands at a goal has a path to it
stopped : (t : Meaning) (base n : ℕ) (m₀ m : List ℕ) (from h next : ℕ) → Hit t base n m₀ m from h next
    → let f = take base m₀ in Stopped (t.steps f) (t.goal f) (t.chosen f) base n (mark base m₀) m from h next
stopped t base n m₀ m from h next x =
    let w = x.arrived.walk in
    record {
      reached = record { some = x.arrived.some; below = w.stack.below; path = w.path; last = x.arrived.last };
      fresh = w.ours;
      spread = w.spread;
      begun = x.begun;
      further = x.further;
      within = x.within;
      served = x.served;
    }

-- where the stack is empty, each fresh place is done, and so is what is reached past the old marks
module _ (lists : List (List ℕ)) (goal chosen : ℕ → Bool) (base n : ℕ) (m₀ m : List ℕ) (from : ℕ)
    (ins : Inside n lists) (w : Walk lists goal chosen base n m₀ m 0) (served : Served chosen base m from n) where
  fresh_done : (p : ℕ) → p < n → Fresh (mark base m₀) base m p → Done lists goal base m p
  fresh_done p l f = ⊎_elim (λ on. absurd (let z : ⊥ = omega (arith, on.1) in z)) (λ d. d) (w.spread.closed p l f)

  past_done : {p : ℕ} → ReachesPast n lists chosen (mark base m₀) from p → (p < n) × Done lists goal base m p
  past_done (start_past {q} low l e free) = (l, fresh_done q l (free, served q low l e))
  past_done (onward_past {p} {q} r s free) =
      let (pl, d) = past_done r in
      let ql : q < n = subst (λ y. y < n) s.2 (ins.leads p s.0 pl s.1) in
      (ql, fresh_done q ql (free, subst (λ y. 0 < mark base m y) s.2 (d.led s.0 s.1 s.1)))

  exhausted : Exhausted lists goal chosen base n (mark base m₀) m from
  exhausted = record { spread = w.spread; done = fresh_done; served = served; none = λ p r. (past_done r).1.plain }

-- marks that were clear may as well have been none
module _ (lists : List (List ℕ)) (goal chosen : ℕ → Bool) (base n : ℕ) (m₀ m : List ℕ) (clear : Clear base n m₀) where
  stopped_clear : (from h next : ℕ) → Stopped lists goal chosen base n (mark base m₀) m from h next → Stopped lists goal chosen base n (λ _. 0) m from h next
  stopped_clear from h next x =
      record {
        reached = x.reached;
        fresh = λ k l. (refl, (x.fresh k l).1);
        spread = record {
          stays = λ p l f. absurd (let z : ⊥ = omega arith in z);
          reached = λ p l f. x.spread.reached p l (clear p l, f.1);
          closed = λ p l f. x.spread.closed p l (clear p l, f.1);
        };
        begun = x.begun;
        further = x.further;
        within = x.within;
        served = x.served;
      }

  module _ (ins : Inside n lists) (x : Exhausted lists goal chosen base n (mark base m₀) m 0) where
    done : (p : ℕ) → p < n → 0 < mark base m p → Done lists goal base m p
    done p l f = x.done p l (clear p l, f)

    complete_at : {p : ℕ} → Reaches n lists chosen p → (p < n) × (0 < mark base m p)
    complete_at (start {q} l e) = (l, x.served q (omega arith) l e)
    complete_at (onward {p} r s) =
        let (pl, pm) = complete_at r in (
          subst (λ y. y < n) s.2 (ins.leads p s.0 pl s.1),
          subst (λ y. 0 < mark base m y) s.2 ((done p pl pm).led s.0 s.1 s.1),
        )

    missed : Missed lists goal chosen base n m
    missed =
        record {
          marks = record { sound = λ p l f. x.spread.reached p l (clear p l, f); complete = λ p r. complete_at r };
          none = λ p r. let (pl, pm) = complete_at r in (done p pl pm).plain;
        }

-- what a hunt from clear marks says
abbrev pub Begins : Meaning → ℕ → ℕ → List ℕ → List ℕ → Option Found → Type 0
Begins t base n m m₂ o =
    let f = take base m in
    Kept base (base + 3 * n) m m₂
    × Ends (λ h next. Stopped (t.steps f) (t.goal f) (t.chosen f) base n (λ _. 0) m₂ 0 h next)
    (Missed (t.steps f) (t.goal f) (t.chosen f) base n m₂) o

begins : (t : Meaning) (base n : ℕ) (m m₁ m₂ : List ℕ) → Inside n (t.steps (take base m)) → Kept base (base + 3 * n) m m₁ → Clear base n m₁
    → (o : Option Found) → Hunted t base n m₁ m₂ 0 o → Begins t base n m m₂ o
begins t base n m m₁ m₂ ins kept clear (Some e) x =
    subst (λ f. Kept base (base + 3 * n) m m₂ × Stopped (t.steps f) (t.goal f) (t.chosen f) base n (λ _. 0) m₂ 0 e.length e.next) kept.front (
      kept_trans base (base + 3 * n) m m₁ m₂ kept x.arrived.walk.kept,
      stopped_clear _ _ _ base n m₁ m₂ clear 0 e.length e.next (stopped t base n m₁ m₂ 0 e.length e.next x),
    )
begins t base n m m₁ m₂ ins kept clear None x =
    let f₁ = take base m₁ in
    let ins₁ : Inside n (t.steps f₁) = subst (λ f. Inside n (t.steps f)) (sym kept.front) ins in
    subst (λ f. Kept base (base + 3 * n) m m₂ × Missed (t.steps f) (t.goal f) (t.chosen f) base n m₂) kept.front (
      kept_trans base (base + 3 * n) m m₁ m₂ kept x.0.kept,
      missed (t.steps f₁) (t.goal f₁) (t.chosen f₁) base n m₁ m₂ clear ins₁ (exhausted _ _ _ base n m₁ m₂ 0 ins₁ x.0 x.1),
    )

-- where base and n are the graph's
inside_at : (t : Meaning) (base n : ℕ) (m : List ℕ) → Inside t.many (t.steps (take t.extent m)) → base ≡ t.extent → n ≡ t.many → Inside n (t.steps (take base m))
inside_at t base n m ins e d =
    subst (λ y. Inside n (t.steps (take y m))) (sym e) (subst (λ y. Inside y (t.steps (take t.extent m))) (sym d) ins)

pub begins_at : (t : Meaning) (base n : ℕ) (m m₁ m₂ : List ℕ) → Inside t.many (t.steps (take t.extent m)) → base ≡ t.extent → n ≡ t.many
    → Kept base (base + 3 * n) m m₁ → Clear base n m₁ → (o : Option Found) → Hunted t base n m₁ m₂ 0 o → Begins t t.extent t.many m m₂ o
begins_at t base n m m₁ m₂ ins e d kept clear o x =
    subst (λ y. Begins t t.extent y m m₂ o) d
    (subst (λ y. Begins t y n m m₂ o) e (begins t base n m m₁ m₂ (inside_at t base n m ins e d) kept clear o x))

-- what a hunt from any marks says
abbrev pub GoesOn : Meaning → ℕ → ℕ → List ℕ → List ℕ → ℕ → Option Found → Type 0
GoesOn t base n m m₂ from o =
    let f = take base m in
    Kept base (base + 3 * n) m m₂
    × Ends (λ h next. Stopped (t.steps f) (t.goal f) (t.chosen f) base n (mark base m) m₂ from h next)
    (Exhausted (t.steps f) (t.goal f) (t.chosen f) base n (mark base m) m₂ from) o

goes_on : (t : Meaning) (base n : ℕ) (m m₂ : List ℕ) (from : ℕ) → Inside n (t.steps (take base m)) → (o : Option Found) → Hunted t base n m m₂ from o → GoesOn t base n m m₂ from o
goes_on t base n m m₂ from ins (Some e) x = (x.arrived.walk.kept, stopped t base n m m₂ from e.length e.next x)
goes_on t base n m m₂ from ins None x = (x.0.kept, exhausted _ _ _ base n m m₂ from ins x.0 x.1)

pub goes_on_at : (t : Meaning) (base n : ℕ) (m m₂ : List ℕ) (from : ℕ) → Inside t.many (t.steps (take t.extent m)) → base ≡ t.extent → n ≡ t.many → (o : Option Found) → Hunted t base n m m₂ from o
    → GoesOn t t.extent t.many m m₂ from o
goes_on_at t base n m m₂ from ins e d o x =
    subst (λ y. GoesOn t t.extent y m m₂ from o) d (subst (λ y. GoesOn t y n m m₂ from o) e (goes_on t base n m m₂ from (inside_at t base n m ins e d) o x))

-- where no place is looked for, none is found
pub only_marks : (t : Meaning) (base n : ℕ) (m m₂ : List ℕ) (o : Option Found) → Begins (goalless t) base n m m₂ o
    → Kept base (base + 3 * n) m m₂ × Marked (t.steps (take base m)) (t.chosen (take base m)) base n m₂
only_marks t base n m m₂ (Some e) x = absurd (let z : ◌≡◌ {A = ℕ} 0 1 = let l = x.1.reached.last in cc in omega arith)
only_marks t base n m m₂ None x = (x.0, x.1.marks)
