-- What a planning writes when no path is left.
use Rattle.std.proofs.Common.{◌≡◌, ℕ, ◌+◌, ◌*◌, ◌≤◌, false, not, ◌&&◌, ltb, List, get_or, take, sym, ap, ◌∙◌, ⊎_elim, arith}
use Rattle.std.proofs.lemmas.List.{length-take-le}
use Rattle.std.proofs.lemmas.Bool.{cases_lt, lt-ltb, le-ltb}
use Rattle.routes.specs.Residuals.{exit, border}
use Rattle.routes.specs.Plans.{ones, Earliest, cost}
use Rattle.routes.proofs.Sums.{sum_ones}
use Rattle.routes.proofs.Flows.{border_is_full_cut}
use Rattle.routes.proofs.Plans.{border_is_the_earliest}
use Rattle.rows.specs.Held.{circuit_of, bars_of}
use Rattle.flows.specs.Kept.{flow_in, routes_in}
use Rattle.flows.specs.Found.{marks}
use Rattle.flows.specs.Listing.{count}
use Rattle.flows.specs.Closing.{BorderIsAsMany, PlanIsEarliest}
use Rattle.rows.proofs.HeldCircuit.{circuit_length}
use Rattle.flows.proofs.Found.{missed_is_closed}

pub border_is_as_many : BorderIsAsMany
border_is_as_many m n feeds room ordered flows f goals missed =
    ap (count (border (marks m n))) (sym (circuit_length m n room))
    ∙ (border_is_full_cut (circuit_of m n) ordered (bars_of m n) ones (flow_in m n) flows (marks m n) (missed_is_closed m n feeds ordered f goals missed)).2

-- no border past the last wire
past : (m : List ℕ) (n w : ℕ) → n ≤ w → border (marks m n) w ≡ false
past m n w l = ap (λ t. (t && ltb 0 (get_or m (13 * n + 2 * w) 0)) && not (marks m n (exit w))) (le-ltb (2 * w) (2 * n) (omega arith))

pub plan_is_earliest : PlanIsEarliest
plan_is_earliest m n feeds room ordered flows f goals missed len before out h =
    let t : Earliest (circuit_of m n) (bars_of m n) ones (take len out) × (cost ones (take len out) ≡ routes_in m n) =
    border_is_the_earliest (circuit_of m n) ordered (bars_of m n) ones (flow_in m n) flows (marks m n) (missed_is_closed m n feeds ordered f goals missed)
    (take len out) h.ascending (λ u. h.wires u ∙ below_all u) in
    (t.0, sym (length-take-le len out h.long) ∙ sym (sum_ones (take len out)) ∙ t.1)
  where
    below_all : (u : ℕ) → (ltb u n && border (marks m n) u) ≡ border (marks m n) u
    below_all u =
        ⊎_elim (λ l. ap (λ a. a && border (marks m n) u) (lt-ltb u n l))
        (λ l. ap (λ a. a && border (marks m n) u) (le-ltb u n l) ∙ sym (past m n u l)) (cases_lt u n)
