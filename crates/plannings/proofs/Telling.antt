-- A call in terms of the routes that are told.
use Rattle.std.proofs.Common.{◌≡◌, ℕ, List, Some, None, Option, Result, sym, subst}
use Rattle.circuits.specs.Answers.{first_fault}
use Rattle.circuits.specs.declared.answer.Refusal.{Refusal}
use Rattle.circuits.specs.declared.making.Making.{Making}
use Rattle.rows.specs.Held.{circuit_of, circuit_in}
use Rattle.runs.specs.Events.{Event}
use Rattle.runs.specs.Shown.{Shows}
use Rattle.runs.specs.Law.{faults}
use Rattle.runs.specs.Told.{Told, counted, DidTold, DoesTold}
use Rattle.runs.specs.declared.calls.Answer.{Answer}
use Rattle.runs.specs.declared.calls.Call.{Call}
use Rattle.runs.specs.declared.calls.Call.TheVariants as call
use Rattle.runs.proofs.Shown.{flows_do_what_is_told}
use Rattle.plannings.specs.Ready.{standing_of, Ready, bare, lent}
use Rattle.plannings.specs.Lending.{standing, IsReady, Turns, Leaves}
use Rattle.plannings.specs.declared.lent.Lent.{Lent}
use Rattle.plannings.specs.declared.planning.Planning.{Planning}
use Rattle.plannings.proofs.Stable.{ready_of}

abbrev pub showing : Lent → Told → Type 0
showing p t = Shows (circuit_in p.rows) (standing p) t

-- a planning can be called
pub ready : (t : Planning) → IsReady t.inner
ready t = ready_of t.inner.rows.wires t.inner.rows.memory.now t.inner.kept t.ready

-- and after a call it can be called again
pub still_ready : {p p' : Lent} {e : Event} → Turns p e p' → IsReady p'
still_ready {p' = p'} t = subst (λ n. Ready n p'.rows.memory.now p'.kept) (sym t.rows.wires) t.turned.ready

pub called : {p p' : Lent} {a : Call} {b : Result Answer Refusal} → IsReady p → Turns p (bare a b) p'
    → (circuit_in p'.rows ≡ circuit_in p.rows) × ((s : Told) → showing p s → (v : Told) × DoesTold (circuit_in p.rows) s (bare a b) v × showing p' v)
called {p} {p'} {a} {b} h t =
    let n = p.rows.wires in
    let m' = p'.rows.memory.now in
    subst (λ k. (circuit_of m' k ≡ circuit_in p.rows) × ((s : Told) → showing p s → (v : Told) × DoesTold (circuit_in p.rows) s (bare a b) v × Shows (circuit_of m' k) (standing_of m' k p'.kept) v)) (sym t.rows.wires) (
      t.turned.same,
      λ s shown.
          let d : (v : Told) × DoesTold (circuit_in p.rows) s (bare a b) v × Shows (circuit_in p.rows) (standing_of m' n p'.kept) v =
          (flows_do_what_is_told (circuit_in p.rows) h.ordered).1 (standing p) (standing_of m' n p'.kept) s (bare a b) shown t.turned.does in
          (d.0, d.1, subst (λ c. Shows c (standing_of m' n p'.kept) d.0) (sym t.turned.same) d.2),
    )

-- plan and route leave what is told alone
plan_leaves : (o : Option ℕ) (c : List Making) (s : Told) (k : ℕ) (before : List ℕ) (b : Result Answer Refusal) (after : List ℕ) (t : Told)
    → DidTold o c s (lent (call.Plan k) before b after) t → t ≡ s
plan_leaves (Some n) c s k before b after t d = d.1
plan_leaves None c s k before b after t d = d.4

route_leaves : (o : Option ℕ) (c : List Making) (s : Told) (i k : ℕ) (before : List ℕ) (b : Result Answer Refusal) (after : List ℕ) (t : Told)
    → DidTold o c s (lent (call.Route i k) before b after) t → t ≡ s
route_leaves (Some n) c s i k before b after t d = d.1
route_leaves None c s i k before b after t d = d.4

module _ (p : Lent) (h : IsReady p) (before : List ℕ) (b : Result Answer Refusal) (after : List ℕ) where
  abbrev c : List Making
  c = circuit_in p.rows

  asked : (a : Call) → ((o : Option ℕ) (s t : Told) → DidTold o c s (lent a before b after) t → t ≡ s)
      → Leaves p (lent a before b after) → (s : Told) → showing p s → DoesTold c s (lent a before b after) s
  asked a leaves does s shown =
      let d : (v : Told) × DoesTold c s (lent a before b after) v × showing p v =
      (flows_do_what_is_told c h.ordered).1 (standing p) (standing p) s (lent a before b after) shown does in
      subst (λ t. DoesTold c s (lent a before b after) t)
      (leaves (first_fault (faults c s.bars s.state (counted s.state s.routes) a)) s d.0 d.1.1) d.1

  pub plan_asked : (k : ℕ) → Leaves p (lent (call.Plan k) before b after) → (s : Told) → showing p s → DoesTold c s (lent (call.Plan k) before b after) s
  plan_asked k = asked (call.Plan k) (λ o s t. plan_leaves o c s k before b after t)

  pub route_asked : (i k : ℕ) → Leaves p (lent (call.Route i k) before b after) → (s : Told) → showing p s → DoesTold c s (lent (call.Route i k) before b after) s
  route_asked i k = asked (call.Route i k) (λ o s t. route_leaves o c s i k before b after t)
