-- Sound entries are the table of a circuit, and a circuit's table has sound entries.
use Rattle.std.proofs.Common.{◌≡◌, ℕ, zero, suc, ◌+◌, ◌<◌, ◌≤◌, true, false, eqb, ltb, List, [], ◌∷◌, ◌++◌, length, get_or, take, sym, refl, ap, ◌∙◌, subst, ⊎_elim, arith}
use Rattle.std.proofs.lemmas.List.{length-map, get_or-map, get_or-take, take_more, take_all, length-take-le}
use Rattle.std.proofs.lemmas.Bool.{cond-true, cond-false, cases_Bool, cases_lt, cases_eq, both_ways, ltb-true, lt-ltb, eqb-true}
use Rattle.circuits.specs.Circuits.{Lawful, width, is_input, Feeds}
use Rattle.circuits.specs.Tables.{Kept, makings_of, names_of, tabled}
use Rattle.circuits.specs.declared.making.Entry.{Entry}
use Rattle.circuits.specs.declared.making.Making.{Making}
use Rattle.circuits.specs.declared.making.Making.TheVariants.{Input, Constant, Copy, Inversion, Sum, Product}
use Rattle.reading.specs.Texts.{rank, made, ranks_of, blank_entry, entry_at}
use Rattle.reading.specs.Holds.{many}
use Rattle.reading.proofs.Laws.{Sound}
use Rattle.reading.proofs.Held.{many_after, many_lt}
use Rattle.reading.proofs.Inputs.{ranks_length, ranks_get, many_none}

-- the name at a made rank
pub rank_name : (es : List Entry) (n : ℕ) → made es n ≡ true → (entry_at es (rank es n)).name ≡ n
rank_name [] n m = absurd (both_ways (ltb 0 0) refl m)
rank_name (e ∷ es) n m =
    ⊎_elim
    (λ y. ap (λ k. (entry_at (e ∷ es) k).name) (cond-true (eqb e.name n) 0 (suc (rank es n)) y) ∙ eqb-true e.name n y)
    (λ f.
    let r : rank (e ∷ es) n ≡ suc (rank es n) = cond-false (eqb e.name n) 0 (suc (rank es n)) f in
    let was : made es n ≡ true = lt-ltb _ _ (omega (arith, ltb-true _ _ m, r)) in
    ap (λ k. (entry_at (e ∷ es) k).name) r ∙ rank_name es n was)
    (cases_Bool (eqb e.name n))

made_input : (m : Making) → (m ≡ Input → ⊥) → is_input m ≡ false
made_input Input made' = absurd (made' refl)
made_input (Constant b) made' = refl
made_input (Copy a) made' = refl
made_input (Inversion a) made' = refl
made_input (Sum a b) made' = refl
made_input (Product a b) made' = refl

input_is : (m : Making) → is_input m ≡ true → m ≡ Input
input_is Input e = refl
input_is (Constant b) e = absurd (both_ways false refl e)
input_is (Copy a) e = absurd (both_ways false refl e)
input_is (Inversion a) e = absurd (both_ways false refl e)
input_is (Sum a b) e = absurd (both_ways false refl e)
input_is (Product a b) e = absurd (both_ways false refl e)

module _ (es : List Entry) where
  pub making_at : (k : ℕ) → k < length es → get_or (makings_of es) k Input ≡ (entry_at es k).making
  making_at k h = get_or-map (λ (e : Entry). e.making) es k blank_entry Input h

  pub name_at : (k : ℕ) → k < length es → get_or (names_of es) k 0 ≡ (entry_at es k).name
  name_at k h = get_or-map (λ (e : Entry). e.name) es k blank_entry 0 h

  wide : (i o : ℕ) → width (tabled es i o) ≡ length es
  wide i o = length-map es (λ (e : Entry). e.making)

  module _ (wires i o : ℕ) (s : Sound wires i o es) where
    input_at : (k : ℕ) → k < i → k < length es
    input_at k h = omega (arith, s.laws.enough)

    apart : (j k : ℕ) → j < length es → k < length es → (entry_at es j).name ≡ (entry_at es k).name → j ≡ k
    apart j k lj lk e =
        ⊎_elim
        (λ lt. absurd (s.laws.apart j k lt lk e))
        (λ ge. ⊎_elim (λ same. same) (λ ne. absurd (s.laws.apart k j (omega arith) lj (sym e))) (cases_eq j k))
        (cases_lt j k)

    pub sound_lawful : Lawful (tabled es i o)
    sound_lawful = record {
      some = omega (arith, wide i o, s.some, s.all);
      most = omega (arith, wide i o, s.most, s.all);
      named = length-map es (λ (e : Entry). e.name) ∙ sym (wide i o);
      inputs_fit = omega (arith, wide i o, s.laws.enough);
      outputs_fit = omega (arith, wide i o, s.outputs_fit, s.all);
      inputs_first = λ k h. ap is_input (making_at k (input_at k h)) ∙ ap (λ x. is_input x.making) (s.laws.first k h);
      inputs_only = λ k l h. let b : k < length es = omega (arith, wide i o) in ap is_input (making_at k b) ∙ made_input (entry_at es k).making (s.laws.only k l b);
      inputs_named = λ k h. name_at k (input_at k h) ∙ ap (λ x. x.name) (s.laws.first k h);
      fed = λ k h. let b : k < length es = omega (arith, wide i o) in subst (Feeds k) (sym (making_at k b)) (s.laws.fed k b);
      names_below = λ k h. let b : k < length es = omega (arith, wide i o) in omega (arith, wide i o, name_at k b, s.laws.named k b, s.all);
      names_apart = λ j k h1 h2 e.
          let a : j < length es = omega (arith, wide i o) in
          let b : k < length es = omega (arith, wide i o) in
          apart j k a b (sym (name_at j a) ∙ e ∙ name_at k b);
    }

    -- the wires so far have names of their own, so each new one is not made yet
    fresh : (k : ℕ) → k < length es → made (take k es) (entry_at es k).name ≡ false
    fresh k h =
        ⊎_elim
        (λ y.
        let low : rank (take k es) (entry_at es k).name < k = omega (arith, ltb-true _ _ y, length-take-le k es (omega arith)) in
        let same : entry_at (take k es) (rank (take k es) (entry_at es k).name) ≡ entry_at es (rank (take k es) (entry_at es k).name) = get_or-take k es (rank (take k es) (entry_at es k).name) blank_entry low in
        absurd (s.laws.apart (rank (take k es) (entry_at es k).name) k low h (ap (λ x. x.name) (sym same) ∙ rank_name (take k es) (entry_at es k).name y)))
        (λ f. f)
        (cases_Bool (made (take k es) (entry_at es k).name))

    counted : (k : ℕ) → k ≤ length es → many (take k es) wires ≡ k
    counted zero h = many_none wires
    counted (suc k) h =
        let one : take (suc k) es ≡ take k es ++ entry_at es k ∷ [] = ap (λ j. take j es) (let e : suc k ≡ k + 1 = omega arith in e) ∙ take_more es k blank_entry (omega arith) in
        ap (λ l. many l wires) one ∙ many_after (take k es) (entry_at es k) (fresh k (omega arith)) wires (s.laws.named k (omega arith)) ∙ (let e : many (take k es) wires + 1 ≡ suc k = omega (arith, counted k (omega arith)) in e)

    -- every name is made
    pub every : (n : ℕ) → n < wires → made es n ≡ true
    every n lt =
        ⊎_elim
        (λ y. y)
        (λ f. let c : many es wires ≡ length es = ap (λ l. many l wires) (sym (take_all (length es) es (omega arith))) ∙ counted (length es) (omega arith) in absurd (omega (arith, c, s.all, many_lt es n f wires lt)))
        (cases_Bool (made es n))

    pub sound_kept : Kept es (ranks_of es (length es)) i o
    sound_kept =
        let rs = ranks_of es (length es) in
        let many_ranks = ranks_length es (length es) in
        let low : (n : ℕ) → n < length rs → rank es n < length es = λ n h. ltb-true _ _ (every n (omega (arith, many_ranks, s.all))) in
        record {
          lawful = sound_lawful;
          many = many_ranks;
          ranks_below = λ n h. omega (arith, low n h, ranks_get es (length es) n (omega (arith, many_ranks)));
          ranks_right = λ n h.
              ap (λ k. get_or (names_of es) k 0) (ranks_get es (length es) n (omega (arith, many_ranks))) ∙ name_at (rank es n) (low n h) ∙ rank_name es n (every n (omega (arith, many_ranks, s.all)));
        }

  module _ (i o : ℕ) (l : Lawful (tabled es i o)) where
    pub lawful_sound : Sound (length es) i o es
    lawful_sound = record {
      some = omega (arith, wide i o, l.some);
      most = omega (arith, wide i o, l.most);
      outputs_fit = omega (arith, wide i o, l.outputs_fit);
      all = refl;
      laws = record {
        enough = omega (arith, wide i o, l.inputs_fit);
        first = λ k h.
            let b : k < length es = omega (arith, wide i o, l.inputs_fit) in
            let m : (entry_at es k).making ≡ Input = input_is (entry_at es k).making (ap is_input (sym (making_at k b)) ∙ l.inputs_first k h) in
            let n : (entry_at es k).name ≡ k = sym (name_at k b) ∙ l.inputs_named k h in
            ap (λ x. record { making = x; name = (entry_at es k).name }) m ∙ ap (λ x. record { making = Input; name = x }) n;
        only = λ k ge h e. both_ways (is_input (entry_at es k).making) (ap is_input (sym (making_at k h)) ∙ l.inputs_only k ge (omega (arith, wide i o))) (ap is_input e);
        fed = λ k h. subst (Feeds k) (making_at k h) (l.fed k (omega (arith, wide i o)));
        named = λ k h. omega (arith, wide i o, name_at k h, l.names_below k (omega (arith, wide i o)));
        apart = λ j k jk h e.
            let same : j ≡ k = l.names_apart j k (omega (arith, wide i o)) (omega (arith, wide i o)) (name_at j (omega arith) ∙ e ∙ sym (name_at k h)) in
            omega arith;
      };
    }
