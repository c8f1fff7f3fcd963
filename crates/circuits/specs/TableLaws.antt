-- A table that passes the test keeps the laws of circuits.
use Rattle.std.specs.Prelude.{◌≡◌, ℕ, zero, suc, ◌+◌, ◌<◌, ◌≤◌, Bool, true, false, not, ◌&&◌, List, [], ◌∷◌, length, ◌==◌, nat_le, nat_lt, slice_index, slice_index_or}
use Rattle.std.proofs.Common.{sym, ap, ◌∙◌, subst, add-zero, zero-add, arith}
use Rattle.std.proofs.lemmas.List.{length-map, get_or-map}
use Rattle.std.proofs.lemmas.Bool.{leb-true, ltb-true, eqb-true, and_parts, cond-true, cond-false, lt-ltb, le-ltb, not-true}
use Rattle.circuits.specs.Circuits.{Lawful, width, is_input, Feeds}
use Rattle.circuits.specs.Tables.{makings_of, names_of, tabled, feeds, placed, entry_fits, rank_fits, each, counts_fit, table_fits}
use Rattle.circuits.specs.declared.making.Making.{Making}
use Rattle.circuits.specs.declared.making.Making.TheVariants.{Input, Constant, Copy, Inversion, Sum, Product}
use Rattle.circuits.specs.declared.making.Entry.{Entry}

each_from : {X : Type 0} (p : ℕ → X → Bool) (xs : List X) (k j : ℕ) (d : X) → each p k xs ≡ true → j < length xs → p (k + j) (slice_index_or xs j d) ≡ true
each_from p [] k j d e h = absurd (omega arith)
each_from p (x ∷ xs) k zero d e h = rw add-zero (and_parts (p k x) (each p (k + 1) xs) e).0
each_from p (x ∷ xs) k (suc j) d e h =
    let s : k + 1 + j ≡ k + suc j = omega arith in
    subst (λ i. p i (slice_index_or xs j d) ≡ true) s (each_from p xs (k + 1) j d (and_parts (p k x) (each p (k + 1) xs) e).1 (omega arith))

pub each_at : {X : Type 0} (p : ℕ → X → Bool) (xs : List X) (j : ℕ) (d : X) → each p 0 xs ≡ true → j < length xs → p j (slice_index_or xs j d) ≡ true
each_at p xs j d e h = subst (λ i. p i (slice_index_or xs j d) ≡ true) (zero-add j) (each_from p xs 0 j d e h)

pub feeds_tells : (k : ℕ) (m : Making) → feeds k m ≡ true → Feeds k m
feeds_tells k Input e = tt
feeds_tells k (Constant b) e = tt
feeds_tells k (Copy a) e = ltb-true a k e
feeds_tells k (Inversion a) e = ltb-true a k e
feeds_tells k (Sum a b) e = let p = and_parts (nat_lt a k) (nat_lt b k) e in (ltb-true a k p.0, ltb-true b k p.1)
feeds_tells k (Product a b) e = let p = and_parts (nat_lt a k) (nat_lt b k) e in (ltb-true a k p.0, ltb-true b k p.1)

blank : Entry
blank = record { making = Input; name = 0 }

module _ (es : List Entry) (rs : List ℕ) (i o : ℕ) (fits : table_fits es rs i o ≡ true) where
  parts : (counts_fit (length es) (length rs) i o ≡ true) × ((each (entry_fits i rs) 0 es ≡ true) × (each (rank_fits (names_of es)) 0 rs ≡ true))
  parts =
      let p = and_parts (counts_fit (length es) (length rs) i o) (each (entry_fits i rs) 0 es && each (rank_fits (names_of es)) 0 rs) fits in
      (p.0, and_parts (each (entry_fits i rs) 0 es) (each (rank_fits (names_of es)) 0 rs) p.1)

  pub counts : (1 ≤ length es) × ((length es ≤ 1048576) × ((length rs ≡ length es) × ((i ≤ length es) × (o ≤ length es))))
  counts =
      let w = length es in
      let a = and_parts (nat_le 1 w) (nat_le w 1048576 && (length rs == w && (nat_le i w && nat_le o w))) parts.0 in
      let b = and_parts (nat_le w 1048576) (length rs == w && (nat_le i w && nat_le o w)) a.1 in
      let c = and_parts (length rs == w) (nat_le i w && nat_le o w) b.1 in
      let d = and_parts (nat_le i w) (nat_le o w) c.1 in
      (leb-true 1 w a.0, (leb-true w 1048576 b.0, (eqb-true (length rs) w c.0, (leb-true i w d.0, leb-true o w d.1))))

  at : ℕ → Entry
  unfolding blank
  at k = slice_index_or es k blank

  making_at : (k : ℕ) → k < length es → slice_index_or (makings_of es) k Input ≡ (at k).making
  unfolding at
  making_at k h = get_or-map (λ (e : Entry). e.making) es k blank Input h

  name_at : (k : ℕ) → k < length es → slice_index (names_of es) k ≡ (at k).name
  unfolding at
  name_at k h = get_or-map (λ (e : Entry). e.name) es k blank 0 h

  entry_at : (k : ℕ) → k < length es → (placed i k (at k) ≡ true) × ((feeds k (at k).making ≡ true) × (((at k).name < length rs) × (slice_index rs (at k).name ≡ k)))
  unfolding at
  entry_at k h =
      let e = at k in
      let t = each_at (entry_fits i rs) es k blank parts.1.0 h in
      let a = and_parts (placed i k e) (feeds k e.making && (nat_lt e.name (length rs) && slice_index rs e.name == k)) t in
      let b = and_parts (feeds k e.making) (nat_lt e.name (length rs) && slice_index rs e.name == k) a.1 in
      let c = and_parts (nat_lt e.name (length rs)) (slice_index rs e.name == k) b.1 in
      (a.0, (b.0, (ltb-true e.name (length rs) c.0, eqb-true (slice_index rs e.name) k c.1)))

  input_at : (k : ℕ) → k < length es → k < i → (is_input (at k).making ≡ true) × ((at k).name ≡ k)
  input_at k h l =
      let e = at k in
      let t = sym (cond-true (nat_lt k i) (is_input e.making && e.name == k) (not (is_input e.making)) (lt-ltb k i l)) ∙ (entry_at k h).0 in
      let p = and_parts (is_input e.making) (e.name == k) t in
      (p.0, eqb-true e.name k p.1)

  made_at : (k : ℕ) → k < length es → i ≤ k → is_input (at k).making ≡ false
  made_at k h l =
      let e = at k in
      not-true (is_input e.making) (sym (cond-false (nat_lt k i) (is_input e.making && e.name == k) (not (is_input e.making)) (le-ltb k i l)) ∙ (entry_at k h).0)

  pub rank_at : (n : ℕ) → n < length es → (slice_index rs n < length es) × (slice_index (names_of es) (slice_index rs n) ≡ n)
  rank_at n h =
      let l : n < length rs = omega (arith, counts) in
      let t = each_at (rank_fits (names_of es)) rs n 0 parts.1.1 l in
      let p = and_parts (nat_lt (slice_index rs n) (length (names_of es))) (slice_index (names_of es) (slice_index rs n) == n) t in
      let q = ltb-true (slice_index rs n) (length (names_of es)) p.0 in
      (omega (arith, q, length-map es (λ (e : Entry). e.name)), eqb-true (slice_index (names_of es) (slice_index rs n)) n p.1)

  wide : width (tabled es i o) ≡ length es
  wide = length-map es (λ (e : Entry). e.making)

  within : (k : ℕ) → k < width (tabled es i o) → k < length es
  within k h = omega (arith, wide)

  pub table_lawful : Lawful (tabled es i o)
  table_lawful = record {
    some = omega (arith, wide, counts.0);
    most = omega (arith, wide, counts.1.0);
    named = length-map es (λ (e : Entry). e.name) ∙ sym wide;
    inputs_fit = omega (arith, wide, counts.1.1.1.0);
    outputs_fit = omega (arith, wide, counts.1.1.1.1);
    inputs_first = λ k h. let l : k < length es = omega (arith, counts.1.1.1.0) in ap is_input (making_at k l) ∙ (input_at k l h).0;
    inputs_only = λ k l h. ap is_input (making_at k (within k h)) ∙ made_at k (within k h) l;
    inputs_named = λ k h. let l : k < length es = omega (arith, counts.1.1.1.0) in name_at k l ∙ (input_at k l h).1;
    fed = λ k h. subst (Feeds k) (sym (making_at k (within k h))) (feeds_tells k (at k).making (entry_at k (within k h)).1.0);
    names_below = λ k h. omega (arith, wide, name_at k (within k h), (entry_at k (within k h)).1.1.0, counts.1.1.0);
    names_apart = λ j k h1 h2 e.
        let a = (entry_at j (within j h1)).1.1.1 in
        let b = (entry_at k (within k h2)).1.1.1 in
        let same = sym (name_at j (within j h1)) ∙ e ∙ name_at k (within k h2) in
        sym a ∙ ap (λ n. slice_index rs n) same ∙ b;
  }
