-- How the two memories hold the wires made so far.
use Rattle.std.proofs.Common.{◌≡◌, ℕ, zero, suc, ◌+◌, ◌<◌, ◌≤◌, true, false, cond, eqb, ltb, List, [], ◌∷◌, ◌++◌, length, get_or, take, set, sym, refl, ap, ◌∙◌, subst, ⊎_elim, arith}
use Rattle.std.proofs.lemmas.List.{take_more_set, length_push, length-set, length-take-le, get_or-set_same, get_or-set_other}
use Rattle.std.proofs.lemmas.Bool.{both_ways, cases_Bool, cases_eq, cond-true, cond-false, lt-ltb, ltb-true, eq-eqb}
use Rattle.std.proofs.lemmas.Bool.Decides.{nat_tests}
use Rattle.circuits.specs.declared.making.Entry.{Entry}
use Rattle.reading.specs.Texts.{rank, made}
use Rattle.reading.specs.Holds.{many, Held, Keeps}

pub rank_le : (es : List Entry) (n : ℕ) → rank es n ≤ length es
rank_le [] n = omega arith
rank_le (e ∷ es) n = grind (arith, nat_tests, rank_le es n)

pub rank_push : (es : List Entry) (e : Entry) (n : ℕ) → rank (es ++ e ∷ []) n ≡ cond (ltb (rank es n) (length es)) (rank es n) (cond (eqb e.name n) (length es) (length es + 1))
rank_push [] e n = grind (arith, nat_tests)
rank_push (x ∷ es) e n = grind (arith, nat_tests, rank_push es e n, rank_le es n)

module _ (es : List Entry) (e : Entry) (fresh : made es e.name ≡ false) where
  pub old : (n : ℕ) → made es n ≡ true → rank (es ++ e ∷ []) n ≡ rank es n
  old n m = rank_push es e n ∙ cond-true _ _ _ m

  pub here : rank (es ++ e ∷ []) e.name ≡ length es
  here = rank_push es e e.name ∙ cond-false _ _ _ fresh ∙ cond-true (eqb e.name e.name) (length es) (length es + 1) (eq-eqb e.name e.name refl)

  pub elsewhere : (n : ℕ) → (n ≡ e.name → ⊥) → made (es ++ e ∷ []) n ≡ made es n
  elsewhere n other = let ne : e.name ≡ n → ⊥ = λ q. other (sym q) in grind (arith, nat_tests, rank_push es e n, length_push es e, ne)

  pub now_made : made (es ++ e ∷ []) e.name ≡ true
  now_made = lt-ltb _ _ (omega (arith, here, length_push es e))

  many_before : (k : ℕ) → k ≤ e.name → many (es ++ e ∷ []) k ≡ many es k
  many_before zero h = refl
  many_before (suc k) h = ap (λ b. many (es ++ e ∷ []) k + cond b 1 0) (elsewhere k (λ q. omega arith)) ∙ ap (λ n. n + cond (made es k) 1 0) (many_before k (omega arith))

  pub many_after : (k : ℕ) → e.name < k → many (es ++ e ∷ []) k ≡ many es k + 1
  many_after zero h = absurd (omega arith)
  many_after (suc k) h =
      ⊎_elim
      (λ same.
      let is : ◌≡◌ {A = ℕ} (cond (made (es ++ e ∷ []) k) 1 0) 1 = cond-true _ _ _ (ap (made (es ++ e ∷ [])) same ∙ now_made) in
      let was : ◌≡◌ {A = ℕ} (cond (made es k) 1 0) 0 = cond-false _ _ _ (ap (made es) same ∙ fresh) in
      omega (arith, is, was, many_before k (omega arith)))
      (λ other.
      let stays : ◌≡◌ {A = ℕ} (cond (made (es ++ e ∷ []) k) 1 0) (cond (made es k) 1 0) = ap (λ b. cond b 1 0) (elsewhere k other) in
      omega (arith, stays, many_after k (omega arith)))
      (cases_eq k e.name)

many_le : (es : List Entry) (k : ℕ) → many es k ≤ k
many_le es zero = omega arith
many_le es (suc k) = grind (arith, nat_tests, many_le es k)

pub many_lt : (es : List Entry) (n : ℕ) → made es n ≡ false → (k : ℕ) → n < k → many es k < k
many_lt es n nay zero h = absurd (omega arith)
many_lt es n nay (suc k) h =
    ⊎_elim
    (λ same. let was : ◌≡◌ {A = ℕ} (cond (made es k) 1 0) 0 = cond-false _ _ _ (ap (made es) same ∙ nay) in omega (arith, was, many_le es k))
    (λ other. let one : cond (made es k) 1 0 ≤ 1 = grind (arith, nat_tests) in omega (arith, one, many_lt es n nay k (omega arith)))
    (cases_eq k n)

pub held_le : (wires : ℕ) (es table : List Entry) (ranks : List ℕ) → Held wires es table ranks → length es ≤ wires
held_le wires es table ranks h = omega (arith, h.all, many_le es wires)

-- what is made stays made, with its rank
pub rank_grow : (es more : List Entry) (n : ℕ) → made es n ≡ true → rank (es ++ more) n ≡ rank es n
rank_grow [] more n m = absurd (both_ways (ltb 0 0) refl m)
rank_grow (e ∷ es) more n m =
    ⊎_elim
    (λ y. cond-true _ _ _ y ∙ sym (cond-true _ _ _ y))
    (λ f. let was : made es n ≡ true = lt-ltb _ _ (omega (arith, ltb-true _ _ m, cond-false (eqb e.name n) 0 (suc (rank es n)) f)) in
    cond-false _ _ _ f ∙ ap suc (rank_grow es more n was) ∙ sym (cond-false _ _ _ f))
    (cases_Bool (eqb e.name n))

-- a name that is not made leaves room for one more wire
pub room_left : (wires : ℕ) (es table : List Entry) (ranks : List ℕ) → Held wires es table ranks → (n : ℕ) → n < wires → made es n ≡ false → length es < wires
room_left wires es table ranks h n lt nay = omega (arith, h.all, many_lt es n nay wires lt)

module _ (wires : ℕ) (es table : List Entry) (ranks : List ℕ) (h : Held wires es table ranks) (e : Entry) (new : e.name < wires) (fresh : made es e.name ≡ false) where
  room : length es < wires
  room = room_left wires es table ranks h e.name new fresh

  pub held_more : Held wires (es ++ e ∷ []) (set table (length es) e) (set ranks e.name (length es))
  held_more =
      record {
        rows = length-set table (length es) e ∙ h.rows;
        names = length-set ranks e.name (length es) ∙ h.names;
        front = ap (λ k. take k (set table (length es) e)) (length_push es e) ∙ take_more_set table (length es) e (omega (arith, room, h.rows)) ∙ ap (λ l. l ++ e ∷ []) h.front;
        known = λ n lt m.
            ⊎_elim
            (λ same. ap (λ k. get_or (set ranks e.name (length es)) k 0) same ∙ get_or-set_same ranks e.name (length es) 0 (omega (arith, h.names)) ∙ sym (here es e fresh) ∙ ap (rank (es ++ e ∷ [])) (sym same))
            (λ other. let was : made es n ≡ true = sym (elsewhere es e fresh n other) ∙ m in get_or-set_other ranks e.name n (length es) 0 other ∙ h.known n lt was ∙ sym (old es e fresh n was))
            (cases_eq n e.name);
        others = λ n lt m.
            ⊎_elim
            (λ same. absurd (both_ways _ m (ap (made (es ++ e ∷ [])) same ∙ now_made es e fresh)))
            (λ other. get_or-set_other ranks e.name n (length es) 0 other ∙ h.others n lt (sym (elsewhere es e fresh n other) ∙ m))
            (cases_eq n e.name);
        below = λ n m.
            ⊎_elim
            (λ same. omega arith)
            (λ other. h.below n (sym (elsewhere es e fresh n other) ∙ m))
            (cases_eq n e.name);
        all = omega (arith, h.all, many_after es e fresh wires new, length_push es e);
      }

-- one more wire in the memories
pub keeps_more : (k : ℕ) (table : List Entry) (ranks : List ℕ) → Keeps k table ranks → (e : Entry) → e.name < length table → made (take k table) e.name ≡ false → Keeps (k + 1) (set table k e) (set ranks e.name k) × (take (k + 1) (set table k e) ≡ take k table ++ e ∷ []) × (k < length table)
keeps_more k table ranks keeps e new fresh =
    let es : List Entry = take k table in
    let len : length es ≡ k = length-take-le k table keeps.room in
    let lt : k < length table = omega (arith, len, room_left _ es table ranks keeps.held e.name new fresh) in
    let more : Held (length table) (es ++ e ∷ []) (set table (length es) e) (set ranks e.name (length es)) = held_more _ es table ranks keeps.held e new fresh in
    let more' : Held (length table) (es ++ e ∷ []) (set table k e) (set ranks e.name k) = subst (λ j. Held (length table) (es ++ e ∷ []) (set table j e) (set ranks e.name j)) len more in
    let front : take (k + 1) (set table k e) ≡ es ++ e ∷ [] = take_more_set table k e lt in
    let size : length table ≡ length (set table k e) = sym (length-set table k e) in
    let held : Held (length (set table k e)) (take (k + 1) (set table k e)) (set table k e) (set ranks e.name k) = subst (λ w. Held w (take (k + 1) (set table k e)) (set table k e) (set ranks e.name k)) size (subst (λ l. Held (length table) l (set table k e) (set ranks e.name k)) (sym front) more') in
    (record { room = omega (arith, size); held = held }, front, lt)
