-- A new planning.
use Rattle.std.proofs.Common.{◌≡◌, ℕ, false, ltb, List, length, sym, refl, ap, ◌∙◌, subst, ap₂, arith}
use mathlib.Core.Path.{fun_ext}
use Rattle.circuits.specs.declared.making.Making.{Making}
use Rattle.routes.specs.Routes.{at, Ordered}
use Rattle.routes.specs.Plans.{ones}
use Rattle.routes.specs.Flows.{IsFlow}
use Rattle.routes.specs.Stored.{slots}
use Rattle.routes.specs.Sums.{ranks, one_if}
use Rattle.routes.proofs.Sums.{sum_none, all_of}
use Rattle.routes.proofs.Wires.{product_in}
use Rattle.rows.specs.Rows.{Room, row_of, cell, Between}
use Rattle.rows.specs.Held.{circuit_of, bars_of}
use Rattle.rows.specs.Fed.{Loaded, FreshLoad}
use Rattle.rows.proofs.HeldCircuit.{circuit_length}
use Rattle.flows.specs.Kept.{flow_in, routes_in}
use Rattle.flows.specs.Listing.{count}
use Rattle.flows.proofs.Kept.{along_is}
use Rattle.flows.proofs.Drops.{slots_none, empty_flow}
use Rattle.runs.specs.Machine.{Begun}
use Rattle.runs.specs.Shown.{Shows}
use Rattle.runs.specs.Told.{opened}
use Rattle.runs.proofs.Shown.{flows_do_what_is_told}
use Rattle.plannings.specs.Ready.{standing_of, opened_kept, Ready, New}

module _ (n : ℕ) (m : List ℕ) (room : Room n m) (ordered : Ordered (circuit_of m n)) (loaded : Loaded (circuit_of m n) n m)
    (bars : (w : ℕ) → cell m n 3 w ≡ 0) (units : (r w : ℕ) → Between 8 12 r → cell m n r w ≡ 0) where
  none_along : (v w : ℕ) → (flow_in m n).along v w ≡ 0
  none_along v w =
      along_is m n v w ∙ ap₂ (λ a b. slots (at (circuit_of m n) w) a b v) (units 9 w (omega arith, omega arith)) (units 10 w (omega arith, omega arith))
      ∙ slots_none (at (circuit_of m n) w) v

  no_flow : IsFlow (circuit_of m n) (bars_of m n) ones (flow_in m n)
  unfolding flow_in
  no_flow =
      empty_flow (circuit_of m n) (bars_of m n) (flow_in m n) (λ w. units 8 w (omega arith, omega arith)) none_along (λ w. units 11 w (omega arith, omega arith))
      (λ w. units 12 w (omega arith, omega arith))

  no_routes : routes_in m n ≡ 0
  unfolding flow_in
  no_routes = sum_none (flow_in m n).start (ranks (length (circuit_of m n))) (all_of (λ w. units 8 w (omega arith, omega arith)) (ranks (length (circuit_of m n))))

  no_bars : count (bars_of m n) n ≡ 0
  no_bars = sum_none (λ w. one_if (bars_of m n w)) (ranks n) (all_of (λ w. ap (λ k. one_if (ltb 0 k)) (bars w)) (ranks n))

  pub ready_new : Ready n m (opened_kept 0)
  ready_new =
      record { room = room; ordered = ordered; loaded = loaded; flows = no_flow; routes = no_routes; bars = no_bars; staged = λ l. absurd (omega arith) }

  pub shows_new : Shows (circuit_of m n) (standing_of m n (opened_kept 0)) (opened (λ w. false))
  shows_new =
      let begun : Begun (circuit_of m n) (λ w. false) (standing_of m n (opened_kept 0)) =
      record { bars_are = fun_ext (λ w. ap (ltb 0) (bars w)); is_flow = no_flow; no_routes = no_routes; open_now = refl } in
      (flows_do_what_is_told (circuit_of m n) ordered).0 (standing_of m n (opened_kept 0)) (λ w. false) begun

-- of no wires, any memory is ready
module _ (m : List ℕ) where
  room_none : Room 0 m
  room_none = record { few = omega arith; rows = omega arith }

  cell_none : (r w : ℕ) → cell m 0 r w ≡ 0
  unfolding row_of
  cell_none r w = refl

  ordered_none : Ordered (circuit_of m 0)
  ordered_none w l = absurd (omega (arith, circuit_length m 0 room_none))

  loaded_none : Loaded (circuit_of m 0) 0 m
  loaded_none =
      record {
        circuit = refl;
        goals = λ v. (λ l. absurd (omega (arith, cell_none 4 v)), λ e. absurd (omega (arith, product_in (circuit_of m 0) e.0 e.1, circuit_length m 0 room_none)));
        lists = record { starts = λ v l. absurd (omega arith); wires = λ v i l. absurd (omega arith) };
      }

  pub ready_none : Ready 0 m (opened_kept 0)
  ready_none = ready_new 0 m room_none ordered_none loaded_none (cell_none 3) (λ r w b. cell_none r w)

-- a circuit just loaded
module _ (c : List Making) (n : ℕ) (m : List ℕ) (room : Room n m) (ordered : Ordered c) (f : FreshLoad c n m) where
  ordered_here : Ordered (circuit_of m n)
  ordered_here = subst Ordered (sym f.loaded.circuit) ordered

  loaded_here : Loaded (circuit_of m n) n m
  loaded_here = subst (λ d. Loaded d n m) (sym f.loaded.circuit) f.loaded

  pub ready_fresh : Ready n m (opened_kept 0)
  ready_fresh = ready_new n m room ordered_here loaded_here f.no_bars f.no_units

  pub new_fresh : New c n m (opened_kept 0)
  new_fresh = record { circuit = f.loaded.circuit; shows = shows_new n m room ordered_here loaded_here f.no_bars f.no_units }
