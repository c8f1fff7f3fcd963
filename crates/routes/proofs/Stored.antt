-- One write to a list is one change of the flow.
use Rattle.std.proofs.Common.{◌≡◌, ℕ, ◌+◌, ◌-◌, ◌<◌, Bool, true, false, cond, ◌&&◌, eqb, ltb, List, length, get_or, set, sym, refl, ap, ◌∙◌, subst, ap₂, inl, inr, ⊎_elim, arith}
use mathlib.Core.Path.{fun_ext}
use Rattle.std.proofs.lemmas.List.{get_or-set_same, get_or-set_other}
use Rattle.std.proofs.lemmas.Bool.{cases_eq, eqb-true, eq-eqb, ne_eqb, lt-ltb, le-ltb, cases_lt}
use Rattle.circuits.specs.declared.making.Making.{Making}
use Rattle.circuits.specs.declared.making.Making.TheVariants.{Input, Constant, Copy, Inversion, Sum, Product}
use Rattle.routes.specs.Routes.{at, Takes}
use Rattle.routes.specs.Sums.{sum_of, ranks, one_if}
use Rattle.routes.specs.Paths.{more_at, less_at, more_along, less_along}
use Rattle.routes.specs.Stored.{slots, slots_total, slots_below, SlotsAddUp, flow_of, First, with_along, with_through, WritesAreChanges, Store, Second, with_start, with_finish}
use Rattle.routes.proofs.Sums.{sum_none, sum_add, sum_zeros, all_ranks}
use Rattle.routes.proofs.Ranks.{one_term}
use Rattle.routes.proofs.Paths.{and_flip}

-- a sum with one term, or none where that is past the end
one_term_below : (k w n : ℕ) → sum_of (λ u. cond (eqb u w) k 0) (ranks n) ≡ cond (ltb w n) k 0
one_term_below k w n =
    ⊎_elim
    (λ l. one_term (λ u. k) w n l ∙ sym (ap (λ b. cond b k 0) (lt-ltb w n l)))
    (λ l. sum_none (λ u. cond (eqb u w) k 0) (ranks n) (all_ranks n (λ u h. ap (λ b. cond b k 0) (ne_eqb u w (λ e. absurd (omega arith)))))
    ∙ sym (ap (λ b. cond b k 0) (le-ltb w n l)))
    (cases_lt w n)

slots_partly : (n : ℕ) (m : Making) (a b : ℕ) → sum_of (slots m a b) (ranks n) ≡ slots_below m a b n
slots_partly n Input a b = sum_zeros (ranks n)
slots_partly n (Constant k) a b = sum_zeros (ranks n)
slots_partly n (Copy s) a b = one_term_below a s n
slots_partly n (Inversion s) a b = one_term_below a s n
slots_partly n (Sum s t) a b =
    omega (arith, sum_add (λ v. cond (eqb v s) a 0) (λ v. cond (eqb v t) b 0) (ranks n), one_term_below a s n, one_term_below b t n)
slots_partly n (Product s t) a b = sum_zeros (ranks n)

slots_all : (n : ℕ) (m : Making) → ((v : ℕ) → Takes m v → v < n) → (a b : ℕ) → slots_below m a b n ≡ slots_total m a b
slots_all n Input h a b = refl
slots_all n (Constant k) h a b = refl
slots_all n (Copy s) h a b = ap (λ t. cond t a 0) (lt-ltb s n (h s refl))
slots_all n (Inversion s) h a b = ap (λ t. cond t a 0) (lt-ltb s n (h s refl))
slots_all n (Sum s t) h a b = ap₂ (λ i j. cond i a 0 + cond j b 0) (lt-ltb s n (h s (inl refl))) (lt-ltb t n (h t (inr refl)))
slots_all n (Product s t) h a b = refl

pub slots_add_up : SlotsAddUp
slots_add_up = (slots_partly, slots_all)

-- a write at w, read at u
pub written : (xs : List ℕ) (w k : ℕ) → w < length xs → (u : ℕ) → get_or (set xs w k) u 0 ≡ cond (eqb u w) k (get_or xs u 0)
written xs w k l u =
    ⊎_elim
    (λ e. ap (λ a. get_or (set xs w k) a 0) e ∙ get_or-set_same xs w k 0 l ∙ sym (ap (λ b. cond b k (get_or xs u 0)) (eq-eqb u w e)))
    (λ n. get_or-set_other xs w u k 0 n ∙ sym (ap (λ b. cond b k (get_or xs u 0)) (ne_eqb u w n))) (cases_eq u w)

cond_more : (b : Bool) (k m : ℕ) → (b ≡ true → k ≡ m) → cond b (k + 1) m ≡ m + one_if b
cond_more true k m h = omega (arith, h refl)
cond_more false k m h = omega arith

cond_less : (b : Bool) (k m : ℕ) → (b ≡ true → k ≡ m) → cond b (k - 1) m ≡ m - one_if b
cond_less true k m h = omega (arith, h refl)
cond_less false k m h = omega arith

pub set_more : (xs : List ℕ) (w : ℕ) → w < length xs → (u : ℕ) → get_or (set xs w (get_or xs w 0 + 1)) u 0 ≡ more_at w (λ u. get_or xs u 0) u
set_more xs w l u = written xs w (get_or xs w 0 + 1) l u ∙ cond_more (eqb u w) (get_or xs w 0) (get_or xs u 0) (λ e. ap (λ a. get_or xs a 0) (sym (eqb-true u w e)))

pub set_less : (xs : List ℕ) (w : ℕ) → w < length xs → (u : ℕ) → get_or (set xs w (get_or xs w 0 - 1)) u 0 ≡ less_at w (λ u. get_or xs u 0) u
set_less xs w l u = written xs w (get_or xs w 0 - 1) l u ∙ cond_less (eqb u w) (get_or xs w 0) (get_or xs u 0) (λ e. ap (λ a. get_or xs a 0) (sym (eqb-true u w e)))

-- one unit more, and one less, from the first operand
pub copied_more : (s v a u : ℕ) → v ≡ s → cond (eqb u s) (a + 1) 0 ≡ cond (eqb u s) a 0 + one_if (eqb u v)
copied_more s v a u f = subst (λ t. cond (eqb u s) (a + 1) 0 ≡ cond (eqb u s) a 0 + one_if (eqb u t)) (sym f) (go (eqb u s))
  where
    go : (t : Bool) → cond t (a + 1) 0 ≡ cond t a 0 + one_if t
    go true = refl
    go false = refl

pub copied_less : (s v a u k : ℕ) → v ≡ s → 0 < a → cond (eqb u s) (a - 1) 0 + k ≡ cond (eqb u s) a 0 + k - one_if (eqb u v)
copied_less s v a u k f l = subst (λ t. cond (eqb u s) (a - 1) 0 + k ≡ cond (eqb u s) a 0 + k - one_if (eqb u t)) (sym f) (go (eqb u s))
  where
    go : (t : Bool) → cond t (a - 1) 0 + k ≡ cond t a 0 + k - one_if t
    go true = omega arith
    go false = omega arith

first_more : (m : Making) (v a b u : ℕ) → First m v → slots m (a + 1) b u ≡ slots m a b u + one_if (eqb u v)
first_more Input v a b u f = absurd f
first_more (Constant k) v a b u f = absurd f
first_more (Copy s) v a b u f = copied_more s v a u f
first_more (Inversion s) v a b u f = copied_more s v a u f
first_more (Sum s t) v a b u f = omega (arith, copied_more s v a u f)
first_more (Product s t) v a b u f = absurd f

first_less : (m : Making) (v a b u : ℕ) → First m v → 0 < a → slots m (a - 1) b u ≡ slots m a b u - one_if (eqb u v)
first_less Input v a b u f l = absurd f
first_less (Constant k) v a b u f l = absurd f
first_less (Copy s) v a b u f l = omega (arith, copied_less s v a u 0 f l)
first_less (Inversion s) v a b u f l = omega (arith, copied_less s v a u 0 f l)
first_less (Sum s t) v a b u f l = copied_less s v a u (cond (eqb u t) b 0) f l
first_less (Product s t) v a b u f l = absurd f

second_more : (m : Making) (v a b u : ℕ) → Second m v → slots m a (b + 1) u ≡ slots m a b u + one_if (eqb u v)
second_more Input v a b u f = absurd f
second_more (Constant k) v a b u f = absurd f
second_more (Copy s) v a b u f = absurd f
second_more (Inversion s) v a b u f = absurd f
second_more (Sum s t) v a b u f = omega (arith, copied_more t v b u f)
second_more (Product s t) v a b u f = absurd f

second_less : (m : Making) (v a b u : ℕ) → Second m v → 0 < b → slots m a (b - 1) u ≡ slots m a b u - one_if (eqb u v)
second_less Input v a b u f l = absurd f
second_less (Constant k) v a b u f l = absurd f
second_less (Copy s) v a b u f l = absurd f
second_less (Inversion s) v a b u f l = absurd f
second_less (Sum s t) v a b u f l = omega (arith, copied_less t v b u (cond (eqb u s) a 0) f l)
second_less (Product s t) v a b u f l = absurd f

-- what changes at w alone, by a unit from v, is one more or one less from v to w
module _ (v w : ℕ) (f g : ℕ → ℕ → ℕ) (elsewhere : (p q : ℕ) → (q ≡ w → ⊥) → g p q ≡ f p q) where
  here : (p : ℕ) → eqb p v ≡ (eqb p v && eqb w w)
  here p = sym (and_flip (eqb p v) (eqb w w) ∙ ap (λ b. b && eqb p v) (eq-eqb w w refl))

  away : (p q : ℕ) → (q ≡ w → ⊥) → (eqb p v && eqb q w) ≡ false
  away p q n = and_flip (eqb p v) (eqb q w) ∙ ap (λ b. b && eqb p v) (ne_eqb q w n)

  more_there : ((p : ℕ) → g p w ≡ f p w + one_if (eqb p v)) → g ≡ more_along v w f
  more_there h = fun_ext (λ p. fun_ext (λ q. ⊎_elim
      (λ e. subst (λ q. g p q ≡ more_along v w f p q) (sym e) (h p ∙ ap (λ b. f p w + one_if b) (here p)))
      (λ n. omega (arith, elsewhere p q n, ap one_if (away p q n))) (cases_eq q w)))

  less_there : ((p : ℕ) → g p w ≡ f p w - one_if (eqb p v)) → g ≡ less_along v w f
  less_there h = fun_ext (λ p. fun_ext (λ q. ⊎_elim
      (λ e. subst (λ q. g p q ≡ less_along v w f p q) (sym e) (h p ∙ ap (λ b. f p w - one_if b) (here p)))
      (λ n. omega (arith, elsewhere p q n, ap one_if (away p q n))) (cases_eq q w)))

module _ (c : List Making) (s : Store) (v w : ℕ) where
  module _ (f : First (at c w) v) (l : w < length s.firsts) where
    firsts_set : ℕ → ℕ → ℕ → ℕ
    firsts_set k p q = slots (at c q) (get_or (set s.firsts w k) q 0) (get_or s.seconds q 0) p

    firsts_else : (k p q : ℕ) → (q ≡ w → ⊥) → firsts_set k p q ≡ (flow_of c s).along p q
    unfolding firsts_set
    firsts_else k p q n = ap (λ a. slots (at c q) a (get_or s.seconds q 0) p) (get_or-set_other s.firsts w q k 0 n)

    firsts_there : (k p : ℕ) → firsts_set k p w ≡ slots (at c w) k (get_or s.seconds w 0) p
    unfolding firsts_set
    firsts_there k p = ap (λ a. slots (at c w) a (get_or s.seconds w 0) p) (get_or-set_same s.firsts w k 0 l)

    firsts_more : firsts_set (get_or s.firsts w 0 + 1) ≡ more_along v w (flow_of c s).along
    firsts_more = more_there v w (flow_of c s).along (firsts_set (get_or s.firsts w 0 + 1)) (firsts_else (get_or s.firsts w 0 + 1))
        (λ p. firsts_there (get_or s.firsts w 0 + 1) p ∙ first_more (at c w) v (get_or s.firsts w 0) (get_or s.seconds w 0) p f)

    firsts_less : 0 < get_or s.firsts w 0 → firsts_set (get_or s.firsts w 0 - 1) ≡ less_along v w (flow_of c s).along
    firsts_less k = less_there v w (flow_of c s).along (firsts_set (get_or s.firsts w 0 - 1)) (firsts_else (get_or s.firsts w 0 - 1))
        (λ p. firsts_there (get_or s.firsts w 0 - 1) p ∙ first_less (at c w) v (get_or s.firsts w 0) (get_or s.seconds w 0) p f k)

  module _ (f : Second (at c w) v) (l : w < length s.seconds) where
    seconds_set : ℕ → ℕ → ℕ → ℕ
    seconds_set k p q = slots (at c q) (get_or s.firsts q 0) (get_or (set s.seconds w k) q 0) p

    seconds_else : (k p q : ℕ) → (q ≡ w → ⊥) → seconds_set k p q ≡ (flow_of c s).along p q
    unfolding seconds_set
    seconds_else k p q n = ap (λ b. slots (at c q) (get_or s.firsts q 0) b p) (get_or-set_other s.seconds w q k 0 n)

    seconds_there : (k p : ℕ) → seconds_set k p w ≡ slots (at c w) (get_or s.firsts w 0) k p
    unfolding seconds_set
    seconds_there k p = ap (λ b. slots (at c w) (get_or s.firsts w 0) b p) (get_or-set_same s.seconds w k 0 l)

    seconds_more : seconds_set (get_or s.seconds w 0 + 1) ≡ more_along v w (flow_of c s).along
    seconds_more = more_there v w (flow_of c s).along (seconds_set (get_or s.seconds w 0 + 1)) (seconds_else (get_or s.seconds w 0 + 1))
        (λ p. seconds_there (get_or s.seconds w 0 + 1) p ∙ second_more (at c w) v (get_or s.firsts w 0) (get_or s.seconds w 0) p f)

    seconds_less : 0 < get_or s.seconds w 0 → seconds_set (get_or s.seconds w 0 - 1) ≡ less_along v w (flow_of c s).along
    seconds_less k = less_there v w (flow_of c s).along (seconds_set (get_or s.seconds w 0 - 1)) (seconds_else (get_or s.seconds w 0 - 1))
        (λ p. seconds_there (get_or s.seconds w 0 - 1) p ∙ second_less (at c w) v (get_or s.firsts w 0) (get_or s.seconds w 0) p f k)

pub writes_are_changes : WritesAreChanges
unfolding firsts_set seconds_set
writes_are_changes = (
  λ c s w l. ap (λ f. with_through f (flow_of c s)) (fun_ext (set_more s.throughs w l)),
  λ c s w l. ap (λ f. with_through f (flow_of c s)) (fun_ext (set_less s.throughs w l)),
  λ c s v w f l. ap (λ g. with_along g (flow_of c s)) (firsts_more c s v w f l),
  λ c s v w f l k. ap (λ g. with_along g (flow_of c s)) (firsts_less c s v w f l k),
  λ c s v w f l. ap (λ g. with_along g (flow_of c s)) (seconds_more c s v w f l),
  λ c s v w f l k. ap (λ g. with_along g (flow_of c s)) (seconds_less c s v w f l k),
  λ c s w l. ap (λ f. with_start f (flow_of c s)) (fun_ext (set_more s.starts w l)),
  λ c s w l. ap (λ f. with_finish f (flow_of c s)) (fun_ext (set_more s.finishes w l)),
)
