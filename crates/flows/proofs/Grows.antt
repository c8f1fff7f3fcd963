-- One unit along the path on the stack.
use Rattle.std.proofs.Common.{◌≡◌, ℕ, zero, suc, ◌+◌, ◌-◌, ◌*◌, ◌/◌, ◌%◌, ◌^◌, ◌<◌, ◌≤◌, List, get_or, sym, refl, ap, ◌∙◌, subst, ap₂, subst₂, ⊎_elim, arith}
use Rattle.std.proofs.lemmas.Bool.{cases_lt, cases_eq}
use Rattle.circuits.specs.declared.making.Making.{Making}
use Rattle.routes.specs.Routes.{IsProduct, Ordered, Wires}
use Rattle.routes.specs.Plans.{Blocked, ones}
use Rattle.routes.specs.Flows.{Flow, IsFlow, value}
use Rattle.routes.specs.Residuals.{Place, entry, exit, Step}
use Rattle.routes.specs.Paths.{ended_at, Lacks}
use Rattle.rows.specs.Rows.{Room, Between, Only}
use Rattle.rows.proofs.Cells.{cell_at, only_then}
use Rattle.rows.specs.Held.{circuit_of, bars_of}
use Rattle.flows.specs.Kept.{flow_in, Flows, routes_in, Changed}
use Rattle.flows.specs.Stacks.{place, stacked, moved, walked, begun_at, Small, Pending, Pushed, Stack, Grown}
use Rattle.rows.proofs.HeldCircuit.{circuit_length, circuit_same as held_same}
use Rattle.flows.proofs.Kept.{bars_same as barred_same}
use Rattle.flows.proofs.Steps.{place_even, place_odd, small_le, pending_more, flow_small, pending_first, value_few, pending_last}

-- the circuit and the bars are not in rows of the flow
circuit_same : (n : ℕ) (m m' : List ℕ) → Only (Between 8 12) n m m' → circuit_of m' n ≡ circuit_of m n
circuit_same n m m' o = held_same (Between 8 12) n m m' (λ r l f. omega arith) o

bars_same : (n : ℕ) (m m' : List ℕ) → Only (Between 8 12) n m m' → bars_of m' n ≡ bars_of m n
bars_same n m m' o = barred_same (Between 8 12) n m m' (λ f. omega arith) o

-- the stack is not in rows of the flow
pub stacked_same : (n : ℕ) (m m' : List ℕ) → Only (Between 8 12) n m m' → (i : ℕ) → i < 2 * n → stacked m' n i ≡ stacked m n i
stacked_same n m m' o i h =
    ⊎_elim
    (λ (l : i < n). sym (cell_at m' n 15 i l) ∙ ap (λ xs. get_or xs i 0) (o 15 (λ f. omega arith)) ∙ cell_at m n 15 i l)
    (λ (l : n ≤ i).
    let k : i - n < n = omega arith in
    let e : 15 * n + i ≡ 16 * n + (i - n) = omega arith in
    ap (λ j. get_or m' j 0) e
    ∙ sym (cell_at m' n 16 (i - n) k) ∙ ap (λ xs. get_or xs (i - n) 0) (o 16 (λ f. omega arith)) ∙ cell_at m n 16 (i - n) k
    ∙ ap (λ j. get_or m j 0) (sym e))
    (cases_lt i n)

rank : Place → ℕ
rank (entry w) = w
rank (exit w) = w

rank_place : (k : ℕ) → rank (place k) ≡ k / 2
unfolding rank
rank_place k = ⊎_elim (λ e. ap rank (place_even k e)) (λ e. ap rank (place_odd k e)) (cases_eq (k % 2) 0)

pub exit_rank : (k w : ℕ) → place k ≡ exit w → k / 2 ≡ w
unfolding rank
exit_rank k w e = sym (rank_place k) ∙ ap rank e

pub entry_rank : (k w : ℕ) → place k ≡ entry w → k / 2 ≡ w
unfolding rank
entry_rank k w e = sym (rank_place k) ∙ ap rank e

-- over the same numbers
pending_at : (c : List Making) (barred : Wires) (n h : ℕ) (f g : ℕ → ℕ) (k : ℕ) (y : Flow) (i : ℕ) → ((j : ℕ) → j < h → f j ≡ g j)
    → Pending c barred n h f k y i → Pending c barred n h g k y i
pending_at c barred n h f g k y i same p =
    record {
      high = p.high;
      low = p.low;
      within = λ j l. subst (λ a. a < 2 * n) (same j l) (p.within j l);
      apart = λ j l jl lh e. p.apart j l jl lh (same j (omega arith) ∙ e ∙ sym (same l lh));
      lacks = subst (λ a. Lacks c barred ones y (place a)) (same i p.high) p.lacks;
      steps = λ j l. subst₂ (λ a b. Step c barred ones y (place a) (place b)) (same j (omega (arith, p.high))) (same (suc j) (omega (arith, p.high))) (p.steps j l);
      small = p.small;
      begun = p.begun;
    }

module _ (n h : ℕ) (m₀ m : List ℕ) (ordered : Ordered (circuit_of m₀ n)) where
  abbrev pub Given : ℕ → ℕ → ℕ → Type 0
  Given a b i = (a ≡ stacked m n (i - 1)) × (b ≡ stacked m n i)

  abbrev pub Ready : ℕ → ℕ → Type 0
  Ready a b =
      (a < 2 * n) × (b < 2 * n) × Ordered (circuit_of m n) × Step (circuit_of m n) (bars_of m n) ones (flow_in m n) (place a) (place b)
      × Small (flow_in m n) (2 ^ 32 - 2)

  pub push_ready : routes_in m₀ n + 2 ^ 22 < 2 ^ 32 → n ≤ 2 ^ 20 → (i a b : ℕ) → Pushed n h m₀ m i → 0 < i → Given a b i → Ready a b
  push_ready few small zero a b p l g = absurd (omega arith)
  push_ready few small (suc j) a b p l g =
      let q : Pending (circuit_of m₀ n) (bars_of m₀ n) n h (stacked m₀ n) (routes_in m₀ n) (flow_in m n) (suc j) = p.pending in
      let high : suc j < h = q.high in
      let low : h ≤ 2 * n = q.low in
      let back : suc j - 1 ≡ j = omega arith in
      let ea : a ≡ stacked m₀ n j = g.0 ∙ ap (stacked m n) back ∙ stacked_same n m₀ m p.rest j (omega arith) in
      let eb : b ≡ stacked m₀ n (suc j) = g.1 ∙ stacked_same n m₀ m p.rest (suc j) (omega arith) in (
        omega (arith, ea, q.within j (omega arith)),
        omega (arith, eb, q.within (suc j) high),
        subst Ordered (sym (circuit_same n m₀ m p.rest)) ordered,
        subst₂ (λ c t. Step c t ones (flow_in m n) (place a) (place b)) (sym (circuit_same n m₀ m p.rest)) (sym (bars_same n m₀ m p.rest))
            (subst₂ (λ a b. Step (circuit_of m₀ n) (bars_of m₀ n) ones (flow_in m n) (place a) (place b)) (sym ea) (sym eb) (q.steps j (omega arith))),
        small_le (flow_in m n) (routes_in m₀ n + (h - suc j)) (2 ^ 32 - 2) (omega arith) q.small,
      )

  pub push_done : (i a b : ℕ) → Pushed n h m₀ m i → 0 < i → Given a b i
      → (m' : List ℕ) → Changed n m (moved (place a) (place b) (flow_in m n)) m' → Pushed n h m₀ m' (i - 1)
  push_done zero a b p l g m' ch = absurd (omega arith)
  push_done (suc j) a b p l g m' ch =
      let q : Pending (circuit_of m₀ n) (bars_of m₀ n) n h (stacked m₀ n) (routes_in m₀ n) (flow_in m n) (suc j) = p.pending in
      let high : suc j < h = q.high in
      let low : h ≤ 2 * n = q.low in
      let back : suc j - 1 ≡ j = omega arith in
      let ea : a ≡ stacked m₀ n j = g.0 ∙ ap (stacked m n) back ∙ stacked_same n m₀ m p.rest j (omega arith) in
      let eb : b ≡ stacked m₀ n (suc j) = g.1 ∙ stacked_same n m₀ m p.rest (suc j) (omega arith) in
      subst (Pushed n h m₀ m') (sym back)
      (record {
        pending = subst (λ y. Pending (circuit_of m₀ n) (bars_of m₀ n) n h (stacked m₀ n) (routes_in m₀ n) y j)
            (sym (ch.flow ∙ ap₂ (λ a b. moved (place a) (place b) (flow_in m n)) ea eb))
            (pending_more (circuit_of m₀ n) ordered (bars_of m₀ n) n h (stacked m₀ n) (routes_in m₀ n) (flow_in m n) j q);
        steps = ap (walked (stacked m₀ n) j) (ch.flow ∙ ap₂ (λ a b. moved (place a) (place b) (flow_in m n)) ea eb) ∙ p.steps;
        rest = only_then (Between 8 12) n m₀ m m' p.rest ch.rest;
      })

-- unless blocked, no more routes than wires
pub routes_few : (n : ℕ) (m : List ℕ) → Room n m → Ordered (circuit_of m n) → (Blocked (circuit_of m n) (bars_of m n) → ⊥) → Flows n m → routes_in m n ≤ n
routes_few n m room ordered free flows =
    omega (arith, value_few (circuit_of m n) ordered (bars_of m n) (flow_in m n) flows free, circuit_length m n room)

-- over the same numbers
walked_at : (f g : ℕ → ℕ) (i : ℕ) → ((j : ℕ) → j ≤ i → f j ≡ g j) → (y : Flow) → walked f i y ≡ walked g i y
walked_at f g zero same y = refl
walked_at f g (suc i) same y =
    walked_at f g i (λ j l. same j (omega arith)) (moved (place (f i)) (place (f (suc i))) y)
    ∙ ap₂ (λ a b. walked g i (moved (place a) (place b) y)) (same i (omega arith)) (same (suc i) (omega arith))

module _ (n h : ℕ) (m₀ : List ℕ) (room : Room n m₀) (ordered : Ordered (circuit_of m₀ n)) (flows : Flows n m₀) (stack : Stack n m₀ h)
    (free : Blocked (circuit_of m₀ n) (bars_of m₀ n) → ⊥) where
  few : routes_in m₀ n ≤ n
  few = routes_few n m₀ room ordered free flows

  pub end_ready : (last : ℕ) → last ≡ stacked m₀ n (h - 1) → (last / 2 < n) × ((flow_in m₀ n).finish (last / 2) + 1 < 2 ^ 32)
  end_ready last e = (
    omega (arith, e, stack.within (h - 1) (omega (arith, stack.some))),
    omega (arith, few, room.few, (flow_small (circuit_of m₀ n) ordered (bars_of m₀ n) (flow_in m₀ n) flows).finishes (last / 2)),
  )

  module _ (last : ℕ) (e : last ≡ stacked m₀ n (h - 1)) (m₁ : List ℕ) (ch : Changed n m₀ (ended_at (last / 2) (flow_in m₀ n)) m₁) where
    flow₁ : flow_in m₁ n ≡ ended_at stack.ends.0 (flow_in m₀ n)
    flow₁ = ch.flow ∙ ap (λ w. ended_at w (flow_in m₀ n)) (exit_rank last stack.ends.0 (ap place e ∙ stack.ends.1))

    routes₁ : routes_in m₁ n ≡ routes_in m₀ n
    routes₁ = ap₂ value (circuit_same n m₀ m₁ ch.rest) flow₁

    ordered₁ : Ordered (circuit_of m₁ n)
    ordered₁ = subst Ordered (sym (circuit_same n m₀ m₁ ch.rest)) ordered

    pub all_ready : Ordered (circuit_of m₁ n) × (routes_in m₁ n + 2 ^ 22 < 2 ^ 32)
        × Pending (circuit_of m₁ n) (bars_of m₁ n) n h (stacked m₁ n) (routes_in m₁ n) (flow_in m₁ n) (h - 1)
    all_ready = (
      ordered₁,
      omega (arith, few, room.few, routes₁),
      pending_at (circuit_of m₁ n) (bars_of m₁ n) n h (stacked m₀ n) (stacked m₁ n) (routes_in m₁ n) (flow_in m₁ n) (h - 1)
          (λ j l. sym (stacked_same n m₀ m₁ ch.rest j (omega (arith, stack.low))))
          (subst₂ (λ c t. Pending c t n h (stacked m₀ n) (routes_in m₁ n) (flow_in m₁ n) (h - 1)) (sym (circuit_same n m₀ m₁ ch.rest)) (sym (bars_same n m₀ m₁ ch.rest))
          (subst₂ (λ k y. Pending (circuit_of m₀ n) (bars_of m₀ n) n h (stacked m₀ n) k y (h - 1)) (sym routes₁) (sym flow₁)
          (pending_first (circuit_of m₀ n) ordered (bars_of m₀ n) (flow_in m₀ n) flows n h (stacked m₀ n) stack))),
    )

    module _ (m₂ : List ℕ) (p : Pushed n h m₁ m₂ 0) (first : ℕ) (f : first ≡ stacked m₂ n 0) where
      at_first : first ≡ stacked m₁ n 0
      at_first = f ∙ stacked_same n m₁ m₂ p.rest 0 (omega (arith, stack.low, stack.some))

      pub begin_ready : (first / 2 < n) × ((flow_in m₂ n).start (first / 2) + 1 < 2 ^ 32)
      begin_ready = (
        omega (arith, at_first, p.pending.within 0 stack.some),
        omega (arith, few, room.few, routes₁, stack.low, p.pending.small.starts (first / 2)),
      )

      at_start : first ≡ stacked m₀ n 0
      at_start = at_first ∙ stacked_same n m₀ m₁ ch.rest 0 (omega (arith, stack.low, stack.some))

      walked₂ : flow_in m₂ n ≡ walked (stacked m₀ n) (h - 1) (ended_at (stacked m₀ n (h - 1) / 2) (flow_in m₀ n))
      walked₂ =
          p.steps
          ∙ walked_at (stacked m₁ n) (stacked m₀ n) (h - 1) (λ j l. stacked_same n m₀ m₁ ch.rest j (omega (arith, stack.low, stack.some))) (flow_in m₁ n)
          ∙ ap (walked (stacked m₀ n) (h - 1)) (ch.flow ∙ ap (λ k. ended_at (k / 2) (flow_in m₀ n)) e)

      pub grown : (m₃ : List ℕ) → Changed n m₂ (begun_at (first / 2) (flow_in m₂ n)) m₃ → Grown n h m₀ m₃
      grown m₃ ch₃ =
          let z : Flow = begun_at (first / 2) (flow_in m₂ n) in
          let w : ℕ = stack.starts.0 in
          let e₁ : place first ≡ entry w = ap place at_start ∙ stack.starts.1 in
          let half : first / 2 ≡ w = entry_rank first w e₁ in
          let product : IsProduct (circuit_of m₁ n) (first / 2) =
          subst₂ (λ c u. IsProduct c u) (sym (circuit_same n m₀ m₁ ch.rest)) (sym half) stack.starts.2 in
          let t : IsFlow (circuit_of m₁ n) (bars_of m₁ n) ones z × (value (circuit_of m₁ n) z ≡ routes_in m₁ n + 1) =
          pending_last (circuit_of m₁ n) ordered₁ (bars_of m₁ n) n h (stacked m₁ n) (routes_in m₁ n) (flow_in m₂ n) p.pending (first / 2)
          (ap place (sym at_first) ∙ e₁ ∙ ap entry (sym half)) product in
          let o : Only (Between 8 12) n m₁ m₃ = only_then (Between 8 12) n m₁ m₂ m₃ p.rest ch₃.rest in
          record {
            flow = ch₃.flow ∙ ap₂ (λ k y. begun_at (k / 2) y) at_start walked₂;
            flows = subst₂ (λ c y. IsFlow c (bars_of m₃ n) ones y) (sym (circuit_same n m₁ m₃ o)) (sym ch₃.flow)
                (subst (λ t. IsFlow (circuit_of m₁ n) t ones z) (sym (bars_same n m₁ m₃ o)) t.0);
            one_more = ap₂ value (circuit_same n m₁ m₃ o) ch₃.flow ∙ t.1 ∙ ap (λ k. k + 1) routes₁;
            rest = only_then (Between 8 12) n m₀ m₁ m₃ ch.rest o;
          }
