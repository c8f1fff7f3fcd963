-- One unit more, along a path of steps.
use Rattle.std.proofs.Common.{◌≡◌, ℕ, zero, suc, ◌+◌, ◌<◌, Bool, true, false, ◌&&◌, eqb, ◌⊎◌, List, ◌∷◌, length, sym, refl, ap, ◌∙◌, subst, ap₂, inl, inr, ⊎_elim, arith}
use Rattle.std.proofs.lemmas.Bool.{cases_Bool, and_parts, eqb-true, eq-eqb, ne_eqb}
use Rattle.std.specs.List.{AllByRecursion}
use Rattle.circuits.specs.declared.making.Making.{Making}
use Rattle.routes.specs.Routes.{IsProduct, Passes, Ordered, Wires, Ends}
use Rattle.routes.specs.Sums.{sum_of, ranks, one_if}
use Rattle.routes.specs.Flows.{over, value, Flow, IsFlow}
use Rattle.routes.specs.Residuals.{Place, Step, entry, exit, pass_one, unpass_one, send_on, take_back}
use Rattle.routes.specs.Paths.{less_at, more_along, less_along, stepped, sent, ended_at, TrailsAddOne, Trail, Lacks, begun, after}
use Rattle.routes.proofs.Sums.{sum_same, sum_none, sum_add, all_of, all_ranks, last_or_lower}
use Rattle.routes.proofs.Wires.{product_in, passes_in, passes_operand, operand_lower, not_both}

-- one at w alone adds up to one
pub one_at : (w n : ℕ) → w < n → sum_of (λ u. one_if (eqb u w)) (ranks n) ≡ 1
one_at w zero h = absurd (omega arith)
one_at w (suc n) h =
    ⊎_elim
    (λ (e : w ≡ n).
    let none : sum_of (λ u. one_if (eqb u w)) (ranks n) ≡ 0 =
    sum_none (λ u. one_if (eqb u w)) (ranks n) (all_ranks n (λ u l. ap one_if (ne_eqb u w (λ k. absurd (omega arith))))) in
    omega (arith, ap one_if (eq-eqb n w (sym e))))
    (λ (k : w < n). omega (arith, one_at w n k, ap one_if (ne_eqb n w (λ e. absurd (omega arith)))))
    (last_or_lower w n h)

pub and_flip : (a b : Bool) → (a && b) ≡ (b && a)
and_flip true true = refl
and_flip true false = refl
and_flip false true = refl
and_flip false false = refl

one_at_right : (b : Bool) (w n : ℕ) → w < n → sum_of (λ u. one_if (b && eqb u w)) (ranks n) ≡ one_if b
one_at_right true w n h = one_at w n h
one_at_right false w n h = sum_none (λ u. one_if (false && eqb u w)) (ranks n) (all_of (λ u. refl) (ranks n))

one_at_left : (b : Bool) (w n : ℕ) → w < n → sum_of (λ u. one_if (eqb u w && b)) (ranks n) ≡ one_if b
one_at_left b w n h =
    sum_same (λ u. one_if (eqb u w && b)) (λ u. one_if (b && eqb u w)) (ranks n) (all_of (λ u. ap one_if (and_flip (eqb u w) b)) (ranks n)) ∙ one_at_right b w n h

-- a unit more from v to w is one more out of v and one more into w
into_more : (f : ℕ → ℕ → ℕ) (v w b n : ℕ) → v < n
    → sum_of (λ a. more_along v w f a b) (ranks n) ≡ sum_of (λ a. f a b) (ranks n) + one_if (eqb b w)
into_more f v w b n h =
    omega (arith, sum_add (λ a. f a b) (λ a. one_if (eqb a v && eqb b w)) (ranks n), one_at_left (eqb b w) v n h)

out_more : (f : ℕ → ℕ → ℕ) (v w a n : ℕ) → w < n
    → sum_of (λ b. more_along v w f a b) (ranks n) ≡ sum_of (λ b. f a b) (ranks n) + one_if (eqb a v)
out_more f v w a n h =
    omega (arith, sum_add (λ b. f a b) (λ b. one_if (eqb a v && eqb b w)) (ranks n), one_at_right (eqb a v) w n h)

less_back : (f : ℕ → ℕ) (w u : ℕ) → 0 < f w → f u ≡ less_at w f u + one_if (eqb u w)
less_back f w u h =
    ⊎_elim (λ e. omega (arith, ap one_if e, ap f (eqb-true u w e))) (λ e. omega (arith, ap one_if e)) (cases_Bool (eqb u w))

less_along_back : (f : ℕ → ℕ → ℕ) (v w a b : ℕ) → 0 < f v w → f a b ≡ less_along v w f a b + one_if (eqb a v && eqb b w)
less_along_back f v w a b h =
    ⊎_elim
    (λ e. let t : (eqb a v ≡ true) × (eqb b w ≡ true) = and_parts (eqb a v) (eqb b w) e in
    omega (arith, ap one_if e, ap₂ f (eqb-true a v t.0) (eqb-true b w t.1)))
    (λ e. omega (arith, ap one_if e)) (cases_Bool (eqb a v && eqb b w))

into_less : (f : ℕ → ℕ → ℕ) (v w b n : ℕ) → v < n → 0 < f v w
    → sum_of (λ a. f a b) (ranks n) ≡ sum_of (λ a. less_along v w f a b) (ranks n) + one_if (eqb b w)
into_less f v w b n h k =
    sum_same (λ a. f a b) (λ a. more_along v w (less_along v w f) a b) (ranks n) (all_of (λ a. less_along_back f v w a b k) (ranks n))
    ∙ into_more (less_along v w f) v w b n h

out_less : (f : ℕ → ℕ → ℕ) (v w a n : ℕ) → w < n → 0 < f v w
    → sum_of (λ b. f a b) (ranks n) ≡ sum_of (λ b. less_along v w f a b) (ranks n) + one_if (eqb a v)
out_less f v w a n h k =
    sum_same (λ b. f a b) (λ b. more_along v w (less_along v w f) a b) (ranks n) (all_of (λ b. less_along_back f v w a b k) (ranks n))
    ∙ out_more (less_along v w f) v w a n h

module _ (c : List Making) (ordered : Ordered c) (barred : Wires) (price : ℕ → ℕ) (x : Flow) where
  -- the step can be made in another flow too
  abbrev pub Still : {a b : Place} → Step c barred price x a b → Flow → Type 0
  Still (pass_one {w = w} s) y = (barred w ≡ true) ⊎ (y.through w < price w)
  Still (unpass_one {w = w} s) y = 0 < y.through w
  Still (send_on {v = v} {w = w} s) y = Unit {0}
  Still (take_back {v = v} {w = w} s) y = 0 < y.along v w

  lower_in : (v w : ℕ) → Passes c w v → v < length c
  lower_in v w f = let l : v < w = operand_lower c ordered w v (passes_operand c w v f) in omega (arith, passes_in c w v f)

  pub lack_step : {a b : Place} (s : Step c barred price x a b) (y : Flow) → Still s y → Lacks c barred price y b → Lacks c barred price (stepped s y) a
  lack_step (pass_one {w = w} s) y h k =
      record {
        from_products = k.from_products;
        passed_on = k.passed_on;
        to_products = k.to_products;
        enters = λ u. omega (arith, k.enters u);
        leaves = λ u. omega (arith, k.leaves u);
        fits = λ u n. ⊎_elim
            (λ e. ⊎_elim
            (λ t. not_both (ap barred (eqb-true u w e) ∙ t) n)
            (λ t. omega (arith, ap one_if e, ap y.through (eqb-true u w e), ap price (eqb-true u w e))) h)
            (λ e. omega (arith, k.fits u n, ap one_if e)) (cases_Bool (eqb u w));
      }
  lack_step (unpass_one {w = w} s) y h k =
      record {
        from_products = k.from_products;
        passed_on = k.passed_on;
        to_products = k.to_products;
        enters = λ u. omega (arith, k.enters u, less_back y.through w u h);
        leaves = λ u. omega (arith, k.leaves u, less_back y.through w u h);
        fits = λ u n. omega (arith, k.fits u n, less_back y.through w u h);
      }
  lack_step (send_on {v = v} {w = w} s) y h k =
      record {
        from_products = k.from_products;
        passed_on = λ a b l. ⊎_elim
            (λ e. let t : (eqb a v ≡ true) × (eqb b w ≡ true) = and_parts (eqb a v) (eqb b w) e in
            subst (λ u. Passes c u a) (sym (eqb-true b w t.1)) (subst (λ u. Passes c w u) (sym (eqb-true a v t.0)) s))
            (λ e. k.passed_on a b (omega (arith, ap one_if e))) (cases_Bool (eqb a v && eqb b w));
        to_products = k.to_products;
        enters = λ u. omega (arith, k.enters u, into_more y.along v w u (length c) (lower_in v w s));
        leaves = λ u. omega (arith, k.leaves u, out_more y.along v w u (length c) (passes_in c w v s));
        fits = k.fits;
      }
  lack_step (take_back {v = v} {w = w} s) y h k =
      let f : Passes c w v = k.passed_on v w h in
      record {
        from_products = k.from_products;
        passed_on = λ a b l. k.passed_on a b (omega arith);
        to_products = k.to_products;
        enters = λ u. omega (arith, k.enters u, into_less y.along v w u (length c) (lower_in v w f) h);
        leaves = λ u. omega (arith, k.leaves u, out_less y.along v w u (length c) (passes_in c w v f) h);
        fits = k.fits;
      }

  abbrev Stills : {b : Place} {ps : List Place} → Trail c barred price x b ps → Flow → Type 0
  Stills (begun f) y = Unit {0}
  Stills (after t s n) y = Stills t y × Still s y

  -- a step changes nothing that a step away from its end needs
  pub still_kept : {a b p q : Place} (s : Step c barred price x a b) (r : Step c barred price x p q) (y : Flow)
      → (p ≡ b → ⊥) → (q ≡ b → ⊥) → Still r y → Still r (stepped s y)
  still_kept (pass_one {w = w} s) (pass_one {w = u} r) y np nq h =
      ⊎_elim inl (λ l. inr (omega (arith, ap one_if (ne_eqb u w (λ e. nq (ap exit e)))))) h
  still_kept (pass_one {w = w} s) (unpass_one {w = u} r) y np nq h = omega (arith, h)
  still_kept (pass_one {w = w} s) (send_on r) y np nq h = tt
  still_kept (pass_one {w = w} s) (take_back r) y np nq h = h
  still_kept (unpass_one {w = w} s) (pass_one {w = u} r) y np nq h = ⊎_elim inl (λ l. inr (omega arith)) h
  still_kept (unpass_one {w = w} s) (unpass_one {w = u} r) y np nq h = omega (arith, h, ap one_if (ne_eqb u w (λ e. nq (ap entry e))))
  still_kept (unpass_one {w = w} s) (send_on r) y np nq h = tt
  still_kept (unpass_one {w = w} s) (take_back r) y np nq h = h
  still_kept (send_on s) (pass_one r) y np nq h = h
  still_kept (send_on s) (unpass_one r) y np nq h = h
  still_kept (send_on s) (send_on r) y np nq h = tt
  still_kept (send_on {v = v} {w = w} s) (take_back {v = i} {w = j} r) y np nq h = omega (arith, h)
  still_kept (take_back s) (pass_one r) y np nq h = h
  still_kept (take_back s) (unpass_one r) y np nq h = h
  still_kept (take_back s) (send_on r) y np nq h = tt
  still_kept (take_back {v = v} {w = w} s) (take_back {v = i} {w = j} r) y np nq h =
      omega (arith, h, ap (λ b. one_if (b && eqb j w)) (ne_eqb i v (λ e. nq (ap exit e))))

  stills_kept : {a b p : Place} {ps : List Place} (s : Step c barred price x a b) (t : Trail c barred price x p ps) (y : Flow)
      → AllByRecursion (λ q. q ≡ b → ⊥) (p ∷ ps) → Stills t y → Stills t (stepped s y)
  stills_kept s (begun f) y n h = tt
  stills_kept s (after t r m) y n h = (stills_kept s t y n.1 h.0, still_kept s r y n.1.0 n.0 h.1)

  still_self : {a b : Place} (s : Step c barred price x a b) (w : ℕ) → Still s (ended_at w x)
  still_self (pass_one s) w = s
  still_self (unpass_one s) w = s
  still_self (send_on s) w = tt
  still_self (take_back s) w = s

  stills_self : {b : Place} {ps : List Place} (t : Trail c barred price x b ps) (w : ℕ) → Stills t (ended_at w x)
  stills_self (begun f) w = tt
  stills_self (after t s n) w = (stills_self t w, still_self s w)

  pub sent_flow : {b : Place} {ps : List Place} (t : Trail c barred price x b ps) (y : Flow) → Stills t y → Lacks c barred price y b
      → IsFlow c barred price (sent t y)
  sent_flow (begun {w = w} f) y h k =
      record {
        from_products = λ u l. ⊎_elim
            (λ e. subst (λ v. IsProduct c v) (sym (eqb-true u w e)) f)
            (λ e. k.from_products u (omega (arith, ap one_if e))) (cases_Bool (eqb u w));
        passed_on = k.passed_on;
        to_products = k.to_products;
        enters = λ u. omega (arith, k.enters u);
        leaves = λ u. omega (arith, k.leaves u);
        fits = k.fits;
      }
  sent_flow (after t s n) y h k = sent_flow t (stepped s y) (stills_kept s t y n h.0) (lack_step s y h.1 k)

  stepped_start : {a b : Place} (s : Step c barred price x a b) (y : Flow) → (stepped s y).start ≡ y.start
  stepped_start (pass_one s) y = refl
  stepped_start (unpass_one s) y = refl
  stepped_start (send_on s) y = refl
  stepped_start (take_back s) y = refl

  pub sent_value : {b : Place} {ps : List Place} (t : Trail c barred price x b ps) (y : Flow) → value c (sent t y) ≡ value c y + 1
  sent_value (begun {w = w} f) y =
      omega (arith, sum_add y.start (λ u. one_if (eqb u w)) (ranks (length c)), one_at w (length c) (product_in c w f))
  sent_value (after t s n) y = sent_value t (stepped s y) ∙ ap (λ f. over c f + 1) (stepped_start s y)

  pub ended_lacks : (w : ℕ) → Ends c w → IsFlow c barred price x → Lacks c barred price (ended_at w x) (exit w)
  ended_lacks w f k =
      record {
        from_products = k.from_products;
        passed_on = k.passed_on;
        to_products = λ u l. ⊎_elim
            (λ e. subst (Ends c) (sym (eqb-true u w e)) f)
            (λ e. k.to_products u (omega (arith, ap one_if e))) (cases_Bool (eqb u w));
        enters = λ u. omega (arith, k.enters u);
        leaves = λ u. omega (arith, k.leaves u);
        fits = k.fits;
      }

pub trails_add_one : TrailsAddOne
trails_add_one c ordered barred price x flow w ps t f = (
  sent_flow c ordered barred price x t (ended_at w x) (stills_self c ordered barred price x t w) (ended_lacks c ordered barred price x w f flow),
  sent_value c ordered barred price x t (ended_at w x),
)
