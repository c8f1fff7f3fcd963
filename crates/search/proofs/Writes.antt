-- What a write to one of the rows changes.
use Rattle.std.proofs.Common.{◌≡◌, ℕ, ◌+◌, ◌-◌, ◌*◌, ◌<◌, ◌≤◌, ◌≢◌, List, length, get_or, set, take, drop, replicate, sym, refl, ap, ◌∙◌, subst, arith, length-set, get_or-set_other, get_or-set_same, drop-set-lt}
use Rattle.std.proofs.lemmas.List.{get_or_append_left, get_or-append_right, get_or-replicate, length-replicate, length-take-le, drop-drop}
use borrow.Rule.Slice.PartMut.{mid_of, put_mid, same_len_mid, mid_len, take_put, drop_put}
use lib.Seq.{take-set-le}
use Rattle.search.specs.Rows.{mark, stacked, tried, Kept}
use Rattle.search.specs.Walks.{Clear, pushed, moved}

pub kept_refl : (low high : ℕ) (m : List ℕ) → Kept low high m m
kept_refl low high m = record { len = refl; front = refl; rest = refl }

pub kept_trans : (low high : ℕ) (a b c : List ℕ) → Kept low high a b → Kept low high b c → Kept low high a c
kept_trans low high a b c x y = record { len = y.len ∙ x.len; front = y.front ∙ x.front; rest = y.rest ∙ x.rest }

pub kept_set : (low high : ℕ) (m : List ℕ) (i v : ℕ) → low ≤ i → i < high → Kept low high m (set m i v)
kept_set low high m i v a b = record { len = length-set m i v; front = take-set-le low m i v a; rest = drop-set-lt high m i v b }

module _ (base n : ℕ) (m : List ℕ) (p v : ℕ) (room : base + 3 * n ≤ length m) (inside : p < n) where
  pub moved_kept : Kept base (base + 3 * n) m (moved base n m p v)
  moved_kept = kept_set base (base + 3 * n) m (base + n + n + p) v (omega arith) (omega arith)

  pub moved_mark : (q : ℕ) → q < n → mark base (moved base n m p v) q ≡ mark base m q
  moved_mark q h = get_or-set_other m (base + n + n + p) (base + q) v 0 (omega arith)

  pub moved_stacked : (k : ℕ) → k < n → stacked base n (moved base n m p v) k ≡ stacked base n m k
  moved_stacked k h = get_or-set_other m (base + n + n + p) (base + n + k) v 0 (omega arith)

  pub moved_here : tried base n (moved base n m p v) p ≡ v
  moved_here = get_or-set_same m (base + n + n + p) v 0 (omega arith)

  pub moved_other : (q : ℕ) → q ≢ p → tried base n (moved base n m p v) q ≡ tried base n m q
  moved_other q ne = get_or-set_other m (base + n + n + p) (base + n + n + q) v 0 (omega arith)

module _ (base n : ℕ) (m : List ℕ) (h p : ℕ) (room : base + 3 * n ≤ length m) (inside : p < n) (short : h < n) where
  pub pushed_kept : Kept base (base + 3 * n) m (pushed base n m h p)
  pushed_kept =
      kept_trans base (base + 3 * n) m (set (set m (base + p) 1) (base + n + h) p) (pushed base n m h p)
      (kept_trans base (base + 3 * n) m (set m (base + p) 1) (set (set m (base + p) 1) (base + n + h) p)
      (kept_set base (base + 3 * n) m (base + p) 1 (omega arith) (omega arith))
      (kept_set base (base + 3 * n) (set m (base + p) 1) (base + n + h) p (omega arith) (omega arith)))
      (kept_set base (base + 3 * n) (set (set m (base + p) 1) (base + n + h) p) (base + n + n + p) 0 (omega arith) (omega arith))

  pub mark_new : mark base (pushed base n m h p) p ≡ 1
  mark_new =
      get_or-set_other _ (base + n + n + p) (base + p) 0 0 (omega arith)
      ∙ get_or-set_other _ (base + n + h) (base + p) p 0 (omega arith)
      ∙ get_or-set_same m (base + p) 1 0 (omega arith)

  pub mark_old : (q : ℕ) → q < n → q ≢ p → mark base (pushed base n m h p) q ≡ mark base m q
  mark_old q l ne =
      get_or-set_other _ (base + n + n + p) (base + q) 0 0 (omega arith)
      ∙ get_or-set_other _ (base + n + h) (base + q) p 0 (omega arith)
      ∙ get_or-set_other m (base + p) (base + q) 1 0 (omega arith)

  pub stacked_new : stacked base n (pushed base n m h p) h ≡ p
  stacked_new =
      get_or-set_other _ (base + n + n + p) (base + n + h) 0 0 (omega arith)
      ∙ get_or-set_same _ (base + n + h) p 0 (simp length-set (omega arith))

  pub stacked_old : (k : ℕ) → k < h → stacked base n (pushed base n m h p) k ≡ stacked base n m k
  stacked_old k l =
      get_or-set_other _ (base + n + n + p) (base + n + k) 0 0 (omega arith)
      ∙ get_or-set_other _ (base + n + h) (base + n + k) p 0 (omega arith)
      ∙ get_or-set_other m (base + p) (base + n + k) 1 0 (omega arith)

  pub tried_new : tried base n (pushed base n m h p) p ≡ 0
  tried_new = get_or-set_same _ (base + n + n + p) 0 0 (simp length-set (omega arith))

  pub tried_old : (q : ℕ) → q ≢ p → tried base n (pushed base n m h p) q ≡ tried base n m q
  tried_old q ne =
      get_or-set_other _ (base + n + n + p) (base + n + n + q) 0 0 (omega arith)
      ∙ get_or-set_other _ (base + n + h) (base + n + n + q) p 0 (omega arith)
      ∙ get_or-set_other m (base + p) (base + n + n + q) 1 0 (omega arith)

-- the marks, where zeros are in their place
cleared_at : (base n : ℕ) (m zeros : List ℕ) → base + 3 * n ≤ length m → zeros ≡ replicate (length (mid_of base (base + n - base) m)) 0
    → Kept base (base + 3 * n) m (put_mid base (base + n - base) m zeros) × Clear base n (put_mid base (base + n - base) m zeros)
cleared_at base n m zeros room is =
    let m' = put_mid base (base + n - base) m zeros in
    let long = mid_len base (base + n) m (omega arith) in
    let len : length zeros ≡ base + n - base = ap length is ∙ length-replicate _ 0 ∙ long in
    let split : base + 3 * n ≡ base + n + 2 * n = omega arith in (
      record {
        len = same_len_mid base (base + n - base) m zeros (len ∙ sym long);
        front = take_put base (base + n - base) m zeros (omega arith);
        rest = ap (λ k. drop k m') split
            ∙ sym (drop-drop (2 * n) (base + n) m')
            ∙ ap (drop (2 * n)) (drop_put base (base + n) m zeros (omega arith) (omega arith) len)
            ∙ drop-drop (2 * n) (base + n) m
            ∙ ap (λ k. drop k m) (sym split);
      },
      λ p h. get_or-append_right (take base m) _ base (base + p) 0 (length-take-le base m (omega arith)) (omega arith)
          ∙ get_or_append_left zeros _ 0 (base + p - base) (omega arith)
          ∙ ap (λ z. get_or z (base + p - base) 0) is
          ∙ get_or-replicate _ (base + p - base) 0 0 (omega arith),
    )

pub cleared : (base n : ℕ) (m : List ℕ) (low high : ℕ) (zeros : List ℕ) → base + 3 * n ≤ length m → low ≡ base → high ≡ base + n
    → zeros ≡ replicate (length (mid_of low (high - low) m)) 0
    → Kept base (base + 3 * n) m (put_mid low (high - low) m zeros) × Clear base n (put_mid low (high - low) m zeros)
cleared base n m low high zeros room e d is =
    let low_is : zeros ≡ replicate (length (mid_of base (high - base) m)) 0 = subst (λ l. zeros ≡ replicate (length (mid_of l (high - l) m)) 0) e is in
    let both_are : zeros ≡ replicate (length (mid_of base (base + n - base) m)) 0 = subst (λ h. zeros ≡ replicate (length (mid_of base (h - base) m)) 0) d low_is in
    subst (λ l. Kept base (base + 3 * n) m (put_mid l (high - l) m zeros) × Clear base n (put_mid l (high - l) m zeros)) (sym e)
    (subst (λ h. Kept base (base + 3 * n) m (put_mid base (h - base) m zeros) × Clear base n (put_mid base (h - base) m zeros)) (sym d) (cleared_at base n m zeros room both_are))
