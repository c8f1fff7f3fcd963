-- A set of wires as ascending ranks.
use Rattle.std.proofs.Common.{◌≡◌, ℕ, ◌+◌, ◌<◌, ◌≤◌, Bool, true, false, ◌&&◌, ◌||◌, eqb, ltb, List, [], ◌∷◌, ◌++◌, length, take, drop, set, sym, refl, ap, ◌∙◌, subst, ap₂, ⊎_elim, arith, length-set, drop-set-lt}
use Rattle.std.specs.List.{AllByRecursion}
use Rattle.std.proofs.ByRecursion.{All-weaker}
use Rattle.std.proofs.lemmas.List.{take_more_set, drop-drop}
use Rattle.std.proofs.lemmas.Bool.{cases_order, eq-eqb, ne_eqb, lt-ltb, le-ltb}
use Rattle.circuits.specs.Levels.{has}
use Rattle.routes.specs.Routes.{Wires}
use Rattle.routes.specs.Ranks.{Ascending}
use Rattle.routes.specs.Sums.{one_if}
use Rattle.routes.proofs.Traces.{prefix_le}
use Rattle.flows.specs.Listing.{count, Listing}
use Rattle.flows.proofs.Units.{sum_more}

all_push : (P : ℕ → Type 0) (xs : List ℕ) (y : ℕ) → AllByRecursion P xs → P y → AllByRecursion P (xs ++ y ∷ [])
all_push P [] y h k = (k, tt)
all_push P (x ∷ xs) y h k = (h.0, all_push P xs y h.1 k)

ascending_push : (xs : List ℕ) (y : ℕ) → Ascending xs → AllByRecursion (λ x. x < y) xs → Ascending (xs ++ y ∷ [])
ascending_push [] y h k = (tt, tt)
ascending_push (x ∷ xs) y h k = (all_push (λ z. x < z) xs y h.0 k.0, ascending_push xs y h.1 k.1)

or_assoc : (a b c : Bool) → (a || (b || c)) ≡ ((a || b) || c)
or_assoc true b c = refl
or_assoc false b c = refl

or_none : (a : Bool) → (a || false) ≡ a
or_none true = refl
or_none false = refl

has_push : (xs : List ℕ) (y u : ℕ) → has u (xs ++ y ∷ []) ≡ (has u xs || eqb y u)
has_push [] y u = or_none (eqb y u)
has_push (x ∷ xs) y u = ap (λ t. eqb x u || t) (has_push xs y u) ∙ or_assoc (eqb x u) (has u xs) (eqb y u)

-- below one more
more_taken : (p : Wires) (w u : ℕ) → p w ≡ true → ((ltb u w && p u) || eqb w u) ≡ (ltb u (w + 1) && p u)
more_taken p w u h =
    ⊎_elim
    (λ (e : u ≡ w). ap₂ (λ a b. (a && p u) || b) (le-ltb u w (omega arith)) (eq-eqb w u (sym e)) ∙ sym (ap₂ (λ a b. a && b) (lt-ltb u (w + 1) (omega arith)) (ap p e ∙ h)))
    (⊎_elim
    (λ (l : u < w). ap₂ (λ a b. (a && p u) || b) (lt-ltb u w l) (ne_eqb w u (λ e. omega arith)) ∙ or_none (p u) ∙ sym (ap (λ a. a && p u) (lt-ltb u (w + 1) (omega arith))))
    (λ (l : w < u). ap₂ (λ a b. (a && p u) || b) (le-ltb u w (omega arith)) (ne_eqb w u (λ e. omega arith)) ∙ sym (ap (λ a. a && p u) (le-ltb u (w + 1) (omega arith)))))
    (cases_order u w)

more_left : (p : Wires) (w u : ℕ) → p w ≡ false → (ltb u w && p u) ≡ (ltb u (w + 1) && p u)
more_left p w u h =
    ⊎_elim
    (λ (e : u ≡ w). ap (λ a. a && p u) (le-ltb u w (omega arith)) ∙ sym (ap₂ (λ a b. a && b) (lt-ltb u (w + 1) (omega arith)) (ap p e ∙ h)))
    (⊎_elim
    (λ (l : u < w). ap (λ a. a && p u) (lt-ltb u w l) ∙ sym (ap (λ a. a && p u) (lt-ltb u (w + 1) (omega arith))))
    (λ (l : w < u). ap (λ a. a && p u) (le-ltb u w (omega arith)) ∙ sym (ap (λ a. a && p u) (le-ltb u (w + 1) (omega arith)))))
    (cases_order u w)

module _ (p : Wires) (w len : ℕ) (before out : List ℕ) (h : Listing p w len before out) where
  pub listing_left : p w ≡ false → Listing p (w + 1) len before out
  listing_left e =
      record {
        ascending = h.ascending;
        lower = All-weaker (λ u. u < w) (λ u. u < w + 1) (λ u l. omega arith) (take len out) h.lower;
        wires = λ u. h.wires u ∙ more_left p w u e;
        many = omega (arith, h.many, sum_more (λ u. one_if (p u)) w, ap one_if e);
        long = h.long;
        rest = h.rest;
      }

  pub listing_taken : p w ≡ true → len < length out → Listing p (w + 1) (len + 1) before (set out len w)
  listing_taken e l =
      let t : take (len + 1) (set out len w) ≡ take len out ++ w ∷ [] = take_more_set out len w l in
      record {
        ascending = subst Ascending (sym t) (ascending_push (take len out) w h.ascending h.lower);
        lower = subst (AllByRecursion (λ u. u < w + 1)) (sym t)
            (all_push (λ u. u < w + 1) (take len out) w (All-weaker (λ u. u < w) (λ u. u < w + 1) (λ u l. omega arith) (take len out) h.lower) (omega arith));
        wires = λ u. ap (has u) t ∙ has_push (take len out) w u ∙ ap (λ a. a || eqb w u) (h.wires u) ∙ more_taken p w u e;
        many = omega (arith, h.many, sum_more (λ u. one_if (p u)) w, ap one_if e);
        long = omega (arith, l, length-set out len w);
        rest = drop-set-lt (len + 1) out len w (omega arith) ∙ sym (drop-drop 1 len out) ∙ ap (drop 1) h.rest ∙ drop-drop 1 len before;
      }

  -- there is room for one wire more
  pub listing_room : p w ≡ true → (n k : ℕ) → w < n → count p n ≤ k → len < k
  listing_room e n k l fits = omega (arith, h.many, prefix_le (λ u. one_if (p u)) w n l, ap one_if e)
