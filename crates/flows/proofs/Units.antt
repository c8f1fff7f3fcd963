-- The units of a flow, by number.
use Rattle.std.proofs.Common.{◌≡◌, ℕ, ◌+◌, ◌-◌, ◌<◌, ◌≤◌, List, [], ◌∷◌, ◌++◌, reverse, length, take, drop, set, sym, refl, ap, ◌∙◌, subst, add-one, arith, drop-set-lt}
use Rattle.std.proofs.lemmas.List.{take_more_set, reverse-append, drop-drop, length-reverse, length-take-le, take_at, drop_at}
use Rattle.circuits.specs.declared.making.Making.{Making}
use Rattle.routes.specs.Routes.{at, Takes, Ordered, Wires}
use Rattle.routes.specs.Sums.{sum_of, ranks}
use Rattle.routes.specs.Plans.{ones}
use Rattle.routes.specs.Flows.{Flow, IsFlow}
use Rattle.routes.specs.Stored.{slots, slots_below, slots_total}
use Rattle.routes.specs.Traces.{first_to, ends_here, goes_to, Traced}
use Rattle.routes.proofs.Wires.{lower, operand_lower}
use Rattle.routes.proofs.Stored.{slots_add_up}
use Rattle.routes.proofs.Traces.{out_fits}
use Rattle.rows.specs.Rows.{Room, cell}
use Rattle.rows.specs.Held.{circuit_of, bars_of}
use Rattle.flows.specs.Kept.{flow_in, Flows, routes_in}
use Rattle.flows.specs.Units.{Slot, Gives, Ending, Leading, Told, TracedBack}
use Rattle.rows.proofs.HeldCircuit.{circuit_length}
use Rattle.flows.proofs.Kept.{along_is}
use Rattle.flows.proofs.Steps.{flow_small}

-- what was read of a wire
module _ (m : List ℕ) (n w : ℕ) (how : Making) (a b : ℕ) (made : how ≡ at (circuit_of m n) w) (ea : a ≡ cell m n 9 w) (eb : b ≡ cell m n 10 w) where
  pub along_read : (v : ℕ) → slots how a b v ≡ (flow_in m n).along v w
  along_read v = (λ i. slots (made i) (ea i) (eb i) v) ∙ sym (along_is m n v w)

  from_read : (v : ℕ) → sum_of (λ u. (flow_in m n).along u w) (ranks v) ≡ slots_below how a b v
  unfolding flow_in
  from_read v =
      slots_add_up.0 v (at (circuit_of m n) w) (cell m n 9 w) (cell m n 10 w)
      ∙ sym (λ i. slots_below (made i) (ea i) (eb i) v)

  module _ (room : Room n m) (ordered : Ordered (circuit_of m n)) (flows : Flows n m) (h : w < n) (unit rest : ℕ)
      (er : rest ≡ unit - (flow_in m n).start w) (some : unit < (flow_in m n).through w) (later : (flow_in m n).start w ≤ unit) where
    pub total_read : rest < slots_total how a b
    total_read =
        let c : List Making = circuit_of m n in
        let long : length c ≡ n = circuit_length m n room in
        omega (
          arith,
          flows.enters w,
          from_read (length (circuit_of m n)),
          slots_add_up.1 (length (circuit_of m n)) how
              (λ v o. let l : v < w = operand_lower (circuit_of m n) ordered w v (subst (λ t. Takes t v) made o) in omega (arith, long)) a b,
        )

    pub gives_read : (v e : ℕ) → Slot how a b rest v e → Gives (flow_in m n) w unit v e
    gives_read v e t =
        record {
          some = subst (λ u. e < u) (along_read v) t.some;
          number = omega (arith, t.number, from_read v);
        }

-- sums one step on
pub first_to_more : (x : Flow) (v u : ℕ) → first_to x v (u + 1) ≡ first_to x v u + x.along v u
first_to_more x v u = ap (first_to x v) (add-one u) ∙ omega arith

pub sum_more : (f : ℕ → ℕ) (u : ℕ) → sum_of f (ranks (u + 1)) ≡ sum_of f (ranks u) + f u
sum_more f u = ap (λ k. sum_of f (ranks k)) (add-one u) ∙ omega arith

module _ (c : List Making) (ordered : Ordered c) (barred : Wires) (x : Flow) (flow : IsFlow c barred ones x) (i n : ℕ) where
  pub leading_first : (w j : ℕ) (out : List ℕ) → 0 < length out → Ending x n i w j → Leading x i n w j 1 (set out 0 w) (set out 0 w)
  leading_first w j out l t =
      record {
        row = ([], ap reverse (take_more_set out 0 w l), ends_here t.some t.number);
        begun = omega arith;
        some = omega (arith, t.some, flow.leaves w);
        high = omega (arith, t.within);
        rest = refl;
      }

  pub leading_more : (w k len : ℕ) (before out : List ℕ) → Leading x i n w k len before out → (v e : ℕ) → Gives x w k v e
      → len < length out → Leading x i n v (first_to x v w + e) (len + 1) before (set out len v)
  leading_more w k len before out h v e t l =
      record {
        row = (
          w ∷ h.row.0,
          ap reverse (take_more_set out len v l) ∙ reverse-append (take len out) (v ∷ []) ∙ ap (λ r. v ∷ r) h.row.1,
          goes_to h.row.2 t.some refl t.number,
        );
        begun = omega arith;
        some = out_fits c ordered barred ones x flow v w e t.some;
        high = omega (arith, h.high, lower c ordered v w (flow.passed_on v w (omega (arith, t.some))));
        rest = drop-set-lt (len + 1) out len v (omega arith) ∙ sym (drop-drop 1 len out) ∙ ap (drop 1) h.rest ∙ drop-drop 1 len before;
      }

  pub leading_last : (w k len : ℕ) (before out : List ℕ) (u : ℕ) → Leading x i n w k len (set before 0 u) out → k < x.start w → TracedBack x i n len before out
  leading_last w k len before out u h l =
      record {
        traced = subst (Traced x i) (sym h.row.1) (k, l, h.row.2);
        short = omega (arith, h.high);
        rest = h.rest ∙ drop-set-lt len before 0 u h.begun;
      }

-- the wire that a unit comes from, by the memory
pub giver_lower : (n : ℕ) (m : List ℕ) → Ordered (circuit_of m n) → Flows n m → (w k v e : ℕ) → Gives (flow_in m n) w k v e → v < w
giver_lower n m ordered flows w k v e t =
    lower (circuit_of m n) ordered v w (flows.passed_on v w (omega (arith, t.some)))

pub giver_few : (n : ℕ) (m : List ℕ) → Ordered (circuit_of m n) → Flows n m → (w k v e : ℕ) → Gives (flow_in m n) w k v e
    → first_to (flow_in m n) v w + e < routes_in m n
giver_few n m ordered flows w k v e t =
    omega (
      arith,
      out_fits (circuit_of m n) ordered (bars_of m n) ones (flow_in m n) flows v w e t.some,
      (flow_small (circuit_of m n) ordered (bars_of m n) (flow_in m n) flows).throughs v,
    )

-- the row, put in order
pub told : (x : Flow) (i n len : ℕ) (before mid rev : List ℕ) → TracedBack x i n len before mid → len ≤ length mid → rev ≡ reverse (take len mid)
    → Told x i n len before (rev ++ drop len mid)
told x i n len before mid rev h l e =
    let full : length rev ≡ len = ap length e ∙ length-reverse (take len mid) ∙ length-take-le len mid l in
    record {
      traced = subst (Traced x i) (sym (take_at rev (drop len mid) len full ∙ e)) h.traced;
      short = h.short;
      rest = drop_at rev (drop len mid) len full ∙ h.rest;
    }
