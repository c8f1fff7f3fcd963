-- The test of a table passes exactly where the table is kept.
use Rattle.std.proofs.Common.{◌≡◌, ℕ, ◌<◌, ◌≤◌, true, not, ◌&&◌, eqb, ltb, leb, List, Some, length, get_or, sym, refl, ap, ◌∙◌, subst, inl, inr, arith}
use Rattle.std.proofs.lemmas.List.{length-map, get_or-map}
use Rattle.std.specs.List.{slice_get}
use Rattle.std.proofs.lemmas.Option.{slice_get-get_or, slice_get_past}
use Rattle.std.proofs.lemmas.Bool.{and_from, cond-true, cond-false, lt-ltb, le-ltb, le-leb, eq-eqb, cases_lt, not_from_false}
use Rattle.circuits.specs.Circuits.{width, is_input, Feeds, place}
use Rattle.circuits.specs.Tables.{Kept, names_of, tabled, feeds, placed, entry_fits, rank_fits, each, counts_fit, table_fits}
use Rattle.circuits.specs.TableLaws.{counts, rank_at, table_lawful}
use Rattle.circuits.proofs.Each.{each_of}
use Rattle.circuits.proofs.Lookups.{place_is, place_none}
use Rattle.circuits.specs.declared.making.Making.{Making}
use Rattle.circuits.specs.declared.making.Making.TheVariants.{Input, Constant, Copy, Inversion, Sum, Product}
use Rattle.circuits.specs.declared.making.Entry.{Entry}

pub kept_from_fits : (es : List Entry) (rs : List ℕ) (i o : ℕ) → table_fits es rs i o ≡ true → Kept es rs i o
kept_from_fits es rs i o e =
    let many = (counts es rs i o e).1.1.0 in
    record {
      lawful = table_lawful es rs i o e;
      many = many;
      ranks_below = λ n h. (rank_at es rs i o e n (omega (arith, many))).0;
      ranks_right = λ n h. (rank_at es rs i o e n (omega (arith, many))).1;
    }

-- the rank that is kept for a name is that of the wire with the name
pub rank_found : (es : List Entry) (rs : List ℕ) (i o : ℕ) → table_fits es rs i o ≡ true → (n : ℕ) → slice_get rs n ≡ place n (names_of es)
rank_found es rs i o fits n =
    let size = (counts es rs i o fits).1.1.0 in
    let wide = length-map es (λ (e : Entry). e.name) in
    let also = length-map es (λ (e : Entry). e.making) in
    let laws = table_lawful es rs i o fits in
    let here : n < length rs → place n (names_of es) ≡ Some (get_or rs n 0) =
    λ h. let at = rank_at es rs i o fits n (omega (arith, size)) in
    place_is (names_of es) (get_or rs n 0) n (omega (arith, at.0, wide)) at.1 (λ k l e. let s = laws.names_apart k (get_or rs n 0) (omega (arith, at.0, also)) (omega (arith, at.0, also)) (e ∙ sym at.1) in omega (arith, s)) in
    elim (cases_lt n (length rs)) [
      | inl h ↦ slice_get-get_or rs n 0 h ∙ sym (here h)
      | inr l ↦ slice_get_past rs n l ∙ sym (place_none (names_of es) n (λ k h e. omega (arith, laws.names_below k (omega (arith, also, wide)), also, size)))
    ]

feeds_from : (k : ℕ) (m : Making) → Feeds k m → feeds k m ≡ true
feeds_from k Input f = refl
feeds_from k (Constant b) f = refl
feeds_from k (Copy a) f = lt-ltb a k f
feeds_from k (Inversion a) f = lt-ltb a k f
feeds_from k (Sum a b) f = and_from (ltb a k) (ltb b k) (lt-ltb a k f.0) (lt-ltb b k f.1)
feeds_from k (Product a b) f = and_from (ltb a k) (ltb b k) (lt-ltb a k f.0) (lt-ltb b k f.1)

module _ (es : List Entry) (rs : List ℕ) (i o : ℕ) (kept : Kept es rs i o) where
  wide : width (tabled es i o) ≡ length es
  wide = length-map es (λ (e : Entry). e.making)

  entry_kept : (k : ℕ) (d : Entry) → k < length es → entry_fits i rs k (get_or es k d) ≡ true
  entry_kept k d h =
      let e = get_or es k d in
      let laws = kept.lawful in
      let w : k < width (tabled es i o) = omega (arith, wide) in
      let made = get_or-map (λ (x : Entry). x.making) es k d Input h in
      let named = get_or-map (λ (x : Entry). x.name) es k d 0 h in
      let below : e.name < length rs = omega (arith, laws.names_below k w, named, wide, kept.many) in
      let input_here : k < i → placed i k e ≡ true =
      λ l. cond-true (ltb k i) (is_input e.making && eqb e.name k) (not (is_input e.making)) (lt-ltb k i l)
      ∙ and_from (is_input e.making) (eqb e.name k) (sym (ap is_input made) ∙ laws.inputs_first k l) (eq-eqb e.name k (sym named ∙ laws.inputs_named k l)) in
      let made_here : i ≤ k → placed i k e ≡ true =
      λ l. cond-false (ltb k i) (is_input e.making && eqb e.name k) (not (is_input e.making)) (le-ltb k i l)
      ∙ not_from_false (is_input e.making) (sym (ap is_input made) ∙ laws.inputs_only k l w) in
      let place : placed i k e ≡ true = elim (cases_lt k i) [ inl l ↦ input_here l | inr l ↦ made_here l ] in
      let fed = feeds_from k e.making (subst (Feeds k) made (laws.fed k w)) in
      let r = get_or rs e.name 0 in
      let rank : r ≡ k = laws.names_apart r k (omega (arith, kept.ranks_below e.name below, wide)) w (kept.ranks_right e.name below ∙ sym named) in
      and_from (placed i k e) (feeds k e.making && (ltb e.name (length rs) && eqb r k)) place
      (and_from (feeds k e.making) (ltb e.name (length rs) && eqb r k) fed
      (and_from (ltb e.name (length rs)) (eqb r k) (lt-ltb e.name (length rs) below) (eq-eqb r k rank)))

  rank_kept : (n : ℕ) → n < length rs → rank_fits (names_of es) n (get_or rs n 0) ≡ true
  rank_kept n h =
      and_from (ltb (get_or rs n 0) (length (names_of es))) (eqb (get_or (names_of es) (get_or rs n 0) 0) n)
      (lt-ltb (get_or rs n 0) (length (names_of es)) (omega (arith, kept.ranks_below n h, length-map es (λ (e : Entry). e.name))))
      (eq-eqb (get_or (names_of es) (get_or rs n 0) 0) n (kept.ranks_right n h))

  blank : Entry
  blank = record { making = Input; name = 0 }

  pub fits_from_kept : table_fits es rs i o ≡ true
  fits_from_kept =
      let laws = kept.lawful in
      let w = length es in
      let n = length rs in
      let a = and_from (leb i w) (leb o w) (le-leb i w (omega (arith, laws.inputs_fit, wide))) (le-leb o w (omega (arith, laws.outputs_fit, wide))) in
      let b = and_from (eqb n w) (leb i w && leb o w) (eq-eqb n w kept.many) a in
      let c = and_from (leb w 1048576) (eqb n w && (leb i w && leb o w)) (le-leb w 1048576 (omega (arith, laws.most, wide))) b in
      let d = and_from (leb 1 w) (leb w 1048576 && (eqb n w && (leb i w && leb o w))) (le-leb 1 w (omega (arith, laws.some, wide))) c in
      and_from (counts_fit w n i o) (each (entry_fits i rs) 0 es && each (rank_fits (names_of es)) 0 rs) d
      (and_from (each (entry_fits i rs) 0 es) (each (rank_fits (names_of es)) 0 rs)
      (each_of (entry_fits i rs) es blank (λ j h. entry_kept j blank h))
      (each_of (rank_fits (names_of es)) rs 0 rank_kept))
