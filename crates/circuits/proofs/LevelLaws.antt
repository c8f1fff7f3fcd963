-- The laws of levels.
use Rattle.std.proofs.Common.{◌≡◌, ℕ, zero, suc, ◌<◌, ◌≤◌, true, false, Some, None, Option, List, [], length, get_or, sym, refl, ap, ◌∙◌, subst, inl, inr, arith, ext_get_or}
use Rattle.std.proofs.lemmas.Option.{slice_get-get_or}
use Rattle.std.proofs.lemmas.Bool.{cases_Bool, cases_lt, cond-true, cond_both}
use Rattle.circuits.specs.Circuits.{Meaning, Lawful, width, Feeds}
use Rattle.circuits.specs.Growths.{Tables, Grows, Bounded, Level, linear}
use Rattle.circuits.specs.Levels.{Rules, rules, own, own_at, has, outgoing, run_from, produced, produced_of, produced_at, IsClean, Levelled, Told, Within, AllRefreshed, Fresh, FreshProductsFit, LevelLaws}
use Rattle.circuits.specs.declared.answer.Overrun.{Overrun}
use Rattle.circuits.specs.declared.making.Making.{Making}
use Rattle.circuits.specs.declared.making.Making.TheVariants.{Input, Constant, Copy, Inversion, Sum, Product}
use Rattle.circuits.proofs.LevelsMean.{right, own_agrees}

-- an answer tells an overrun or is clean
clean_of : (m : Meaning) (r : Rules) (out : List ℕ) (a : Option Overrun) → Told m r out a → (length out < width m → own_at m r out (length out) ≤ r.limit) → a ≡ None
clean_of m r out None told low = refl
clean_of m r out (Some o) told low = absurd (omega (arith, low told.1.0, told.1.1.0, told.1.1.1))

module _ (m : Meaning) (laws : Lawful m) (r : Rules) (plan : List ℕ) where
  ran : List ℕ
  ran = (run_from r plan [] m.makings).levels

  within_from_clean : IsClean m.makings r plan → Within m r plan
  unfolding ran
  within_from_clean e =
      let p = right m laws r plan in
      record { out = ran; all = subst (λ a. Told m r ran a) e p.1; levelled = p.0 }

  -- two lists of outgoing levels agree as far as both go
  agree : (xs ys : List ℕ) → Levelled m r plan xs → Levelled m r plan ys → (n : ℕ) → n ≤ length xs → n ≤ length ys → (k : ℕ) → k < n → get_or xs k 0 ≡ get_or ys k 0
  agree xs ys is also zero hx hy k h = absurd (omega arith)
  agree xs ys is also (suc n) hx hy k h =
      let before = agree xs ys is also n (omega arith) (omega arith) in
      let w : n < width m = omega (arith, is.few) in
      let own_same : own_at m r xs n ≡ own_at m r ys n = own_agrees r.growth xs ys n (get_or m.makings n Input) (laws.fed n w) before in
      let here : get_or xs n 0 ≡ get_or ys n 0 = is.goes n (omega arith) ∙ ap (outgoing r plan n) own_same ∙ sym (also.goes n (omega arith)) in
      elim (cases_lt k n) [ inl l ↦ before k l | inr g ↦ let e : k ≡ n = omega arith in ap (λ i. get_or xs i 0) e ∙ here ∙ ap (λ i. get_or ys i 0) (sym e) ]

  clean_from_within : Within m r plan → IsClean m.makings r plan
  unfolding ran
  clean_from_within w =
      let p = right m laws r plan in
      let n = length ran in
      clean_of m r ran (run_from r plan [] m.makings).answer p.1
      (λ h. let same = own_agrees r.growth ran w.out n (get_or m.makings n Input) (laws.fed n h) (agree ran w.out p.0 w.levelled n (omega arith) (omega (arith, w.all))) in
      omega (arith, same, w.levelled.low n (omega (arith, w.all))))

  one : (a b : Within m r plan) → a.out ≡ b.out
  one a b = ext_get_or 0 a.out b.out (a.all ∙ sym b.all) (λ k h. agree a.out b.out a.levelled b.levelled (length a.out) (omega arith) (omega (arith, a.all, b.all)) k h)

-- a wire that is not produced has own level 1
own_first : (t : Tables) (out : List ℕ) (m : Making) → produced m ≡ false → own t out m ≡ 1
own_first t out Input e = refl
own_first t out (Constant b) e = refl
own_first t out (Copy a) e = let z : ◌≡◌ {A = ℕ} 0 1 = cc in absurd (omega arith)
own_first t out (Inversion a) e = let z : ◌≡◌ {A = ℕ} 0 1 = cc in absurd (omega arith)
own_first t out (Sum a b) e = let z : ◌≡◌ {A = ℕ} 0 1 = cc in absurd (omega arith)
own_first t out (Product a b) e = let z : ◌≡◌ {A = ℕ} 0 1 = cc in absurd (omega arith)

module _ (t : Tables) (l n : ℕ) (grows : Grows t) (bounds : Bounded l n) where
  fresh_level : (a : ℕ) → Fresh (rules t l n) a → Level a
  fresh_level a (inl e) = record { low = omega arith; high = omega arith }
  fresh_level a (inr e) = record { low = omega (arith, bounds.fresh_low); high = omega (arith, bounds.fresh_high, bounds.limit_high) }

  fresh_low : (a : ℕ) → Fresh (rules t l n) a → a ≤ l
  fresh_low a (inl e) = omega (arith, bounds.limit_low)
  fresh_low a (inr e) = omega (arith, bounds.fresh_high)

  module _ (fit : FreshProductsFit (rules t l n)) (out : List ℕ) (k : ℕ) (fresh : (j : ℕ) → j < k → Fresh (rules t l n) (get_or out j 0)) where
    own_low : (m : Making) → Feeds k m → own t out m ≤ l
    own_low Input f = omega (arith, bounds.limit_low)
    own_low (Constant b) f = omega (arith, bounds.limit_low)
    own_low (Copy a) f = fresh_low _ (fresh a f)
    own_low (Inversion a) f = fresh_low _ (fresh a f)
    own_low (Sum a b) f =
        let x = get_or out a 0 in
        let y = get_or out b 0 in
        let s = grows.sum_larger x y (fresh_level x (fresh a f.0)) (fresh_level y (fresh b f.1)) in
        omega (arith, s, fresh_low x (fresh a f.0), fresh_low y (fresh b f.1))
    own_low (Product a b) f = fit _ _ (fresh a f.0) (fresh b f.1)

  module _ (m : Meaning) (laws : Lawful m) (plan : List ℕ) (all : AllRefreshed m plan) (out : List ℕ) (is : Levelled m (rules t l n) plan out) where
    out_fresh : (k : ℕ) → k < length out → Fresh (rules t l n) (get_or out k 0)
    out_fresh k h =
        let r = rules t l n in
        let mk = get_or m.makings k Input in
        let made : produced_at m.makings k ≡ produced mk = ap produced_of (slice_get-get_or m.makings k Input (omega (arith, is.few))) in
        let refreshed : has k plan ≡ true → outgoing r plan k (own_at m r out k) ≡ n = λ e. cond-true (has k plan) n (own_at m r out k) e in
        subst (Fresh r) (sym (is.goes k h))
        (elim (cases_Bool (produced mk)) [
          | inl e ↦ inr (refreshed (all k (made ∙ e)))
          | inr e ↦ cond_both (has k plan) n (own_at m r out k) (Fresh r) (λ _. inr refl) (λ _. inl (own_first t out mk e))
        ])

  all_clean : FreshProductsFit (rules t l n) → (m : Meaning) → Lawful m → (plan : List ℕ) → AllRefreshed m plan → IsClean m.makings (rules t l n) plan
  all_clean fit m laws plan all =
      let r = rules t l n in
      let p = right m laws r plan in
      let out = (run_from r plan [] m.makings).levels in
      clean_of m r out (run_from r plan [] m.makings).answer p.1
      (λ h. own_low fit out (length out) (out_fresh m laws plan all out p.0) (get_or m.makings (length out) Input) (laws.fed (length out) h))

fit_two : (t : Tables) → Grows t → (n : ℕ) → Bounded 2 n → FreshProductsFit (rules t 2 n)
fit_two t grows n bounds a b fa fb =
    let one : (x : ℕ) → Fresh (rules t 2 n) x → x ≡ 1 = λ x f. elim f [ inl e ↦ e | inr e ↦ omega (arith, bounds.fresh_low, bounds.fresh_high) ] in
    let same : t.product a b ≡ 2 = ap (λ x. t.product x b) (one a fa) ∙ ap (t.product 1) (one b fb) ∙ grows.product_first in
    omega (arith, same)

fit_twenty : FreshProductsFit (rules linear 20 9)
fit_twenty a b fa fb =
    let low : (x : ℕ) → Fresh (rules linear 20 9) x → x ≤ 9 = λ x f. elim f [ inl e ↦ omega arith | inr e ↦ omega arith ] in
    omega (arith, low a fa, low b fb)

pub level_laws : LevelLaws
level_laws = record {
  clean_is_within = λ m laws r plan. (within_from_clean m laws r plan, clean_from_within m laws r plan);
  one_levelling = one;
  all_refreshed_is_clean = λ m laws t l n grows bounds fit plan all. all_clean t l n grows bounds fit m laws plan all;
  fit_at_two = fit_two;
  fit_at_twenty = fit_twenty;
}
