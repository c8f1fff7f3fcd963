-- What a planning tells of itself.
use Rattle.std.proofs.Common.{◌≡◌, ℕ, Bool, List, sym, ap, ◌∙◌}
use Rattle.rows.specs.Held.{circuit_of, bars_of}
use Rattle.flows.specs.Kept.{flow_in}
use Rattle.flows.specs.Listing.{count}
use Rattle.runs.specs.Shown.{Seen}
use Rattle.runs.specs.Told.{counted}
use Rattle.plannings.specs.declared.kept.Phase.{Phase}
use Rattle.plannings.specs.declared.kept.Phase.TheVariants as phase
use Rattle.plannings.specs.Ready.{state_of, stage_of, Staged}
use Rattle.plannings.specs.Lending.{IsReady, TellsOf}
use Rattle.plannings.specs.declared.kept.Kept.{Kept}
use Rattle.plannings.specs.declared.lent.Lent.{Lent}
use Rattle.plannings.proofs.Answering.{told_phase}

module _ (p : Lent) (h : IsReady p) where
  abbrev n : ℕ
  n = p.rows.wires

  abbrev m : List ℕ
  m = p.rows.memory.now

  abbrev q : Kept
  q = p.kept

  pub tells_state : TellsOf p (λ t. state_of q.phase ≡ t.state)
  tells_state t s = sym (s.state_is ∙ told_phase m n q.phase)

  counted_is : (z : Phase) (rs : List (List ℕ)) → Staged z n m q.routes → Seen (circuit_of m n) (bars_of m n) (flow_in m n) (stage_of m n z) rs
      → q.routes ≡ counted (state_of z) rs
  counted_is (phase.Open next) rs staged seen = sym (seen.1 ∙ h.routes)
  counted_is phase.Closed rs staged seen = sym (seen.1 ∙ h.routes)
  counted_is (phase.Blocked h) rs staged seen = staged.0

  pub tells_routes : TellsOf p (λ t. q.routes ≡ counted t.state t.routes)
  tells_routes t s = counted_is q.phase t.routes h.staged s.seen ∙ ap (λ z. counted z t.routes) (tells_state t s)

  pub tells_bars : TellsOf p (λ t. q.bars ≡ count t.bars n)
  tells_bars t s = sym (ap (λ b. count b n) s.bars_are ∙ h.bars)

  pub tells_is_barred : (rank : ℕ) (r : Bool) → r ≡ bars_of m n rank → TellsOf p (λ t. r ≡ t.bars rank)
  tells_is_barred rank r e t s = e ∙ sym (ap (λ b. b rank) s.bars_are)
