-- The flow with no route.
use Rattle.std.proofs.Common.{◌≡◌, ℕ, ◌*◌, ◌<◌, ◌≤◌, Bool, true, false, cond, eqb, List, length, refl, ◌∙◌, ap₂, arith}
use Rattle.circuits.specs.declared.making.Making.{Making}
use Rattle.circuits.specs.declared.making.Making.TheVariants.{Input, Constant, Copy, Inversion, Sum, Product}
use Rattle.routes.specs.Routes.{at, Wires}
use Rattle.routes.specs.Sums.{ranks}
use Rattle.routes.specs.Plans.{ones}
use Rattle.routes.specs.Flows.{Flow, IsFlow, value}
use Rattle.routes.specs.Stored.{slots}
use Rattle.routes.proofs.Sums.{sum_none, all_of}
use Rattle.rows.specs.Rows.{Room, cell, Between, Wiped}
use Rattle.rows.proofs.Cells.{only_wider}
use Rattle.rows.specs.Held.{circuit_of, bars_of}
use Rattle.flows.specs.Kept.{flow_in}
use Rattle.flows.specs.Stacks.{Emptied}
use Rattle.flows.proofs.Kept.{along_is}
use Rattle.rows.proofs.Wholes.{wiped_only, wiped_cell}

none_if : (t : Bool) → ◌≡◌ {A = ℕ} (cond t 0 0) 0
none_if true = refl
none_if false = refl

pub slots_none : (m : Making) (v : ℕ) → slots m 0 0 v ≡ 0
slots_none Input v = refl
slots_none (Constant k) v = refl
slots_none (Copy a) v = none_if (eqb v a)
slots_none (Inversion a) v = none_if (eqb v a)
slots_none (Sum a b) v = omega (arith, none_if (eqb v a), none_if (eqb v b))
slots_none (Product a b) v = refl

module _ (c : List Making) (barred : Wires) (x : Flow)
    (s : (w : ℕ) → x.start w ≡ 0) (a : (v w : ℕ) → x.along v w ≡ 0) (f : (w : ℕ) → x.finish w ≡ 0) (t : (w : ℕ) → x.through w ≡ 0) where
  pub empty_flow : IsFlow c barred ones x
  empty_flow =
      record {
        from_products = λ w l. absurd (omega (arith, s w));
        passed_on = λ v w l. absurd (omega (arith, a v w));
        to_products = λ w l. absurd (omega (arith, f w));
        enters = λ w. omega (arith, s w, t w, sum_none (λ v. x.along v w) (ranks (length c)) (all_of (λ v. a v w) (ranks (length c))));
        leaves = λ v. omega (arith, f v, t v, sum_none (λ w. x.along v w) (ranks (length c)) (all_of (λ w. a v w) (ranks (length c))));
        fits = λ w l. omega (arith, t w);
      }

  empty_value : value c x ≡ 0
  empty_value = sum_none x.start (ranks (length c)) (all_of s (ranks (length c)))

module _ (n : ℕ) (m m' : List ℕ) (same : length m' ≡ length m) (room : Room n m) (h : Wiped m m' (8 * n) (13 * n)) where
  zero_cell : (r : ℕ) → Between 8 12 r → (w : ℕ) → cell m' n r w ≡ 0
  zero_cell r f w = wiped_cell n m m' 8 13 same room h r f.0 (omega (arith, f.1)) (omega arith) w

  zero_along : (v w : ℕ) → (flow_in m' n).along v w ≡ 0
  zero_along v w =
      along_is m' n v w
      ∙ ap₂ (λ a b. slots (at (circuit_of m' n) w) a b v) (zero_cell 9 (omega arith, omega arith) w) (zero_cell 10 (omega arith, omega arith) w)
      ∙ slots_none (at (circuit_of m' n) w) v

  pub emptied : Emptied n m m'
  unfolding flow_in
  emptied =
      record {
        flows = empty_flow (circuit_of m' n) (bars_of m' n) (flow_in m' n) (zero_cell 8 (omega arith, omega arith)) zero_along (zero_cell 11 (omega arith, omega arith)) (zero_cell 12 (omega arith, omega arith));
        none = empty_value (circuit_of m' n) (bars_of m' n) (flow_in m' n) (zero_cell 8 (omega arith, omega arith)) zero_along (zero_cell 11 (omega arith, omega arith)) (zero_cell 12 (omega arith, omega arith));
        zeros = zero_cell;
        rest = only_wider (Between 8 12) n (λ r. (8 ≤ r) × (r < 13)) m m' (λ r f. (f.0, omega (arith, f.1))) (wiped_only n m m' 8 13 same room h);
      }
