-- Look-ups in a list that is made from a function of the index.
use Rattle.std.proofs.Common.{◌≡◌, ℕ, zero, suc, ◌+◌, ◌<◌, ◌≤◌, List, [], ◌∷◌, map, length, nat_lt, get_or, Bor, Some, None, Option, sym, refl, ap, ◌∙◌, inl, inr, add-zero, zero-add, arith}
use Rattle.std.specs.Bool.{then_some}
use Rattle.std.specs.Option.{is_some, IfSome, option_copied}
use Rattle.std.specs.List.{slice_get, range_with_len}
use Rattle.std.proofs.lemmas.List.FromFn.{length-map-range_with_len, get_or-map-range_with_len, length-range_with_len, get_or-range_with_len}
use Rattle.std.proofs.lemmas.Option.{slice_get-get_or, slice_get_past, slice_get_read}
use Rattle.std.proofs.lemmas.Bool.{cases_eq, cases_lt, eq-eqb, ne_eqb, lt-ltb, le-ltb, ltb-true, ltb-false}
use Rattle.circuits.specs.Circuits.{place_from, place}

pub nth_counted : {X : Type 0} (f : ℕ → X) (n k : ℕ) → k < n → slice_get (map f (range_with_len 0 n)) k ≡ Some (f k)
nth_counted f n k h =
    let l : k < length (map f (range_with_len 0 n)) = omega (arith, length-map-range_with_len f 0 n) in
    slice_get-get_or (map f (range_with_len 0 n)) k (f 0) l ∙ ap Some (get_or-map-range_with_len f 0 n k k (f 0) h (zero-add k))

pub nth_counted_past : {X : Type 0} (f : ℕ → X) (n k : ℕ) → n ≤ k → slice_get (map f (range_with_len 0 n)) k ≡ None
nth_counted_past f n k h = slice_get_past (map f (range_with_len 0 n)) k (omega (arith, length-map-range_with_len f 0 n))

pub nth_counting : (n k : ℕ) → k < n → slice_get (range_with_len 0 n) k ≡ Some k
nth_counting n k h =
    let l : k < length (range_with_len 0 n) = omega (arith, length-range_with_len 0 n) in
    slice_get-get_or (range_with_len 0 n) k 0 l ∙ ap Some (get_or-range_with_len 0 n k 0 h ∙ zero-add k)

pub nth_counting_past : (n k : ℕ) → n ≤ k → slice_get (range_with_len 0 n) k ≡ None
nth_counting_past n k h = slice_get_past (range_with_len 0 n) k (omega (arith, length-range_with_len 0 n))

-- `get(k).copied()`
pub copied_get : (o : Option (Bor ℕ)) (xs : List ℕ) (k : ℕ) → is_some o ≡ nat_lt k (length xs) → IfSome o (λ x. x.now ≡ get_or xs k x.now) → option_copied o ≡ slice_get xs k
copied_get None xs k e h = sym (slice_get_past xs k (ltb-false k (length xs) (sym e)))
copied_get (Some x) xs k e h = sym (slice_get_read xs (length xs) k x.now refl (ltb-true k (length xs) (sym e)) h)

-- a list that counts from 0 has k at k, if it is so long
pub counted_get : (n k : ℕ) → then_some (nat_lt k n) k ≡ slice_get (range_with_len 0 n) k
counted_get n k =
    elim (cases_lt k n) [ inl h ↦ rw (lt-ltb k n h) (sym (nth_counting n k h)) | inr l ↦ rw (le-ltb k n l) (sym (nth_counting_past n k l)) ]

pub place_counting_from : (n i x : ℕ) → i ≤ x → x < i + n → place_from i x (range_with_len i n) ≡ Some x
place_counting_from zero i x low high = absurd (omega arith)
place_counting_from (suc n) i x low high =
    elim (cases_eq i x) [ inl e ↦ rw (eq-eqb i x e) (ap Some e) | inr d ↦ rw (ne_eqb i x d) (place_counting_from n (i + 1) x (omega arith) (omega arith)) ]

pub place_counting_past : (n i x : ℕ) → i + n ≤ x → place_from i x (range_with_len i n) ≡ None
place_counting_past zero i x high = refl
place_counting_past (suc n) i x high =
    let d : i ≡ x → ⊥ = λ e. omega arith in
    rw (ne_eqb i x d) (place_counting_past n (i + 1) x (omega arith))

pub counted_place : (n x : ℕ) → then_some (nat_lt x n) x ≡ place x (range_with_len 0 n)
counted_place n x =
    elim (cases_lt x n) [ inl h ↦ rw (lt-ltb x n h) (sym (place_counting_from n 0 x (omega arith) (omega arith))) | inr l ↦ rw (le-ltb x n l) (sym (place_counting_past n 0 x (omega arith))) ]

-- the first place of x
place_first : (ys : List ℕ) (i j x : ℕ) → j < length ys → get_or ys j 0 ≡ x → ((k : ℕ) → k < j → get_or ys k 0 ≡ x → ⊥) → place_from i x ys ≡ Some (i + j)
place_first [] i j x h e apart = absurd (omega arith)
place_first (y ∷ ys) i zero x h e apart = rw (eq-eqb y x e) (ap Some (sym (add-zero i)))
place_first (y ∷ ys) i (suc j) x h e apart =
    let d : y ≡ x → ⊥ = apart 0 (omega arith) in
    let s : i + 1 + j ≡ i + suc j = omega arith in
    rw (ne_eqb y x d) (place_first ys (i + 1) j x (omega arith) e (λ k l. apart (suc k) (omega arith)) ∙ ap Some s)

pub place_is : (ys : List ℕ) (j x : ℕ) → j < length ys → get_or ys j 0 ≡ x → ((k : ℕ) → k < j → get_or ys k 0 ≡ x → ⊥) → place x ys ≡ Some j
place_is ys j x h e apart = place_first ys 0 j x h e apart ∙ ap Some (zero-add j)

place_none_from : (ys : List ℕ) (i x : ℕ) → ((k : ℕ) → k < length ys → get_or ys k 0 ≡ x → ⊥) → place_from i x ys ≡ None
place_none_from [] i x apart = refl
place_none_from (y ∷ ys) i x apart =
    let d : y ≡ x → ⊥ = apart 0 (omega arith) in
    rw (ne_eqb y x d) (place_none_from ys (i + 1) x (λ k l. apart (suc k) (omega arith)))

pub place_none : (ys : List ℕ) (x : ℕ) → ((k : ℕ) → k < length ys → get_or ys k 0 ≡ x → ⊥) → place x ys ≡ None
place_none ys x apart = place_none_from ys 0 x apart

-- what a look-up within a list gives
pub nth_within : {X : Type 0} (xs : List X) (k : ℕ) (d x : X) → k < length xs → slice_get xs k ≡ Some x → get_or xs k d ≡ x
nth_within xs k d x h e = let p = slice_get-get_or xs k d h in cc

pub nth_absent : {X : Type 0} (xs : List X) (k : ℕ) (d : X) → k < length xs → slice_get xs k ≡ None → ⊥
nth_absent {X} xs k d h e = let p = slice_get-get_or xs k d h in let z : ◌≡◌ {A = ℕ} 0 1 = cc in omega arith
