-- The units of a flow as routes.
use Rattle.std.proofs.Common.{◌≡◌, ℕ, zero, suc, ◌+◌, ◌-◌, ◌<◌, ◌≤◌, Bool, true, false, not, ◌&&◌, eqb, ◌⊎◌, List, [], ◌∷◌, length, sym, refl, ap, ◌∙◌, subst, ap₂, subst₂, inl, inr, ⊎_elim, arith}
use Rattle.std.proofs.lemmas.Bool.{true≢false, cases_Bool, cases_lt, cases_order, eqb-true, ne_eqb}
use Rattle.std.specs.List.{AllByRecursion}
use Rattle.circuits.specs.Levels.{has}
use Rattle.circuits.specs.declared.making.Making.{Making}
use Rattle.routes.specs.Routes.{Passes, Ordered, Wires, Joined, last, Ends, Route}
use Rattle.routes.specs.Sums.{sum_of, ranks, one_if}
use Rattle.routes.specs.Standing.{passing}
use Rattle.routes.specs.Flows.{over, value, Flow, IsFlow}
use Rattle.routes.specs.Traces.{first_from, first_to, Traced, Traces, UnitsHaveRows, TracesAreRoutes, OneRowEach, Leads, ends_here, goes_to}
use Rattle.routes.proofs.Sums.{sum_same, sum_add, sum_swap, all_of, last_or_lower}
use Rattle.routes.proofs.Wires.{passes_in, lower, has_cases}
use Rattle.routes.proofs.Levels.{strong}
use Rattle.routes.proofs.Paths.{one_at}

-- the part of a sum in which a number falls
pub prefix_le : (f : ℕ → ℕ) (v n : ℕ) → v < n → sum_of f (ranks v) + f v ≤ sum_of f (ranks n)
prefix_le f v zero h = absurd (omega arith)
prefix_le f v (suc n) h =
    ⊎_elim
    (λ (e : v ≡ n). subst (λ u. sum_of f (ranks u) + f u ≤ f n + sum_of f (ranks n)) (sym e) (omega arith))
    (λ (k : v < n). omega (arith, prefix_le f v n k)) (last_or_lower v n h)

locate : (f : ℕ → ℕ) (n j : ℕ) → j < sum_of f (ranks n) → (v : ℕ) × (e : ℕ) × (v < n) × (e < f v) × (j ≡ sum_of f (ranks v) + e)
locate f zero j h = absurd (omega arith)
locate f (suc n) j h =
    ⊎_elim
    (λ k. let t : (v : ℕ) × (e : ℕ) × (v < n) × (e < f v) × (j ≡ sum_of f (ranks v) + e) = locate f n j k in
    (t.0, t.1, omega (arith, t.2), t.3, t.4))
    (λ k. (n, j - sum_of f (ranks n), omega arith, omega arith, omega arith))
    (cases_lt j (sum_of f (ranks n)))

locate_same : (f : ℕ → ℕ) (v e u d : ℕ) → e < f v → d < f u → sum_of f (ranks v) + e ≡ sum_of f (ranks u) + d → v ≡ u
locate_same f v e u d h k s =
    ⊎_elim (λ t. t) (⊎_elim (λ l. absurd (omega (arith, prefix_le f v u l))) (λ l. absurd (omega (arith, prefix_le f u v l)))) (cases_order v u)

-- two units that lead on from one number are one unit
leads_same : (x : Flow) (i l : ℕ) {w j : ℕ} {ws ts : List ℕ} → Leads x i w j ws → Leads x l w j ts → i ≡ l
leads_same x i l (ends_here h e) (ends_here k f) = e ∙ sym f
leads_same x i l (ends_here h e) (goes_to b k f g) = absurd (omega arith)
leads_same x i l (goes_to b k f g) (ends_here h e) = absurd (omega arith)
leads_same x i l (goes_to {v = v} {w = w} {k = m} {e = d} {ws = ws} a h f g) (goes_to {w = u} {k = n} {e = e} {ws = ts} b k p q) =
    let s : u ≡ w = locate_same (λ t. x.along v t) u e w d k h (omega arith) in
    leads_same x i l a (subst₂ (λ a b. Leads x l a b ts) s (same s (ap (λ a. first_to x v a) s) (ap (λ a. first_from x a v) s)) b)
  where
    same : u ≡ w → first_to x v u ≡ first_to x v w → first_from x u v ≡ first_from x w v → n ≡ m
    same s to from = omega arith

-- one less that is free
apart_one : (free : ℕ → Bool) (n : ℕ) → free n ≡ true → (j : ℕ) → one_if (free j) ≡ one_if (free j && not (eqb j n)) + one_if (eqb j n)
apart_one free n h j =
    ⊎_elim
    (λ e. omega (arith, ap one_if (ap free (eqb-true j n e) ∙ h), ap₂ (λ a b. one_if (a && not b)) (ap free (eqb-true j n e) ∙ h) e, ap one_if e))
    (λ e. go (free j) (eqb j n) e) (cases_Bool (eqb j n))
  where
    go : (a b : Bool) → b ≡ false → one_if a ≡ one_if (a && not b) + one_if b
    go true true e = absurd (true≢false e)
    go true false e = refl
    go false true e = absurd (true≢false e)
    go false false e = refl

all_ones : (n : ℕ) → sum_of (λ j. one_if true) (ranks n) ≡ n
all_ones zero = refl
all_ones (suc n) = omega (arith, all_ones n)

module _ (c : List Making) (ordered : Ordered c) (barred : Wires) (price : ℕ → ℕ) (x : Flow) (flow : IsFlow c barred price x) where
  -- the rest of a unit's row is that of a route
  leads_joined : (i : ℕ) {w j : ℕ} {ws : List ℕ} → Leads x i w j ws → Joined c w ws × Ends c (last w ws)
  leads_joined i (ends_here {w = w} h e) = (tt, flow.to_products w (omega arith))
  leads_joined i (goes_to {v = v} {w = w} {ws = ws} a h f g) =
      let t : Joined c w ws × Ends c (last w ws) = leads_joined i a in
      ((flow.passed_on v w (omega arith), t.0), t.1)

  pub traced_route : (i : ℕ) (r : List ℕ) → Traced x i r → Route c r
  traced_route i [] t = absurd t
  traced_route i (w ∷ ws) t =
      let k : Joined c w ws × Ends c (last w ws) = leads_joined i t.2 in
      (flow.from_products w (omega (arith, t.1)), k.0, k.1)

  -- a unit has a number at each wire of its row
  abbrev Numbered : ℕ → ℕ → ℕ → Type 0
  Numbered i w j = (j < x.through w) × ((ts : List ℕ) × Leads x i w j ts)

  pub out_fits : (v w e : ℕ) → e < x.along v w → first_to x v w + e < x.through v
  out_fits v w e h =
      let l : w < length c = passes_in c w v (flow.passed_on v w (omega arith)) in
      omega (arith, flow.leaves v, prefix_le (λ u. x.along v u) w (length c) l)

  in_fits : (w v e : ℕ) → e < x.along v w → first_from x w v + e < x.through w
  in_fits w v e h =
      let f : Passes c w v = flow.passed_on v w (omega arith) in
      let l : v < length c = omega (arith, lower c ordered v w f, passes_in c w v f) in
      omega (arith, flow.enters w, prefix_le (λ u. x.along u w) v (length c) l)

  leads_numbered : (i : ℕ) {w j : ℕ} {ws : List ℕ} → Leads x i w j ws → (u : ℕ) → has u ws ≡ true → (k : ℕ) × Numbered i u k
  leads_numbered i (ends_here h e) u l = absurd (true≢false (sym l))
  leads_numbered i (goes_to {v = v} {w = w} {k = k} {e = e} {ws = ws} a h f g) u l =
      ⊎_elim
      (λ s. subst (λ b. (k : ℕ) × Numbered i b k) (sym s) (k, (omega (arith, in_fits w v e h), (ws, a))))
      (λ s. leads_numbered i a u s) (has_cases u w ws l)

  traced_numbered : (i : ℕ) (r : List ℕ) → Traced x i r → (u : ℕ) → has u r ≡ true → (k : ℕ) × Numbered i u k
  traced_numbered i [] t u l = absurd t
  traced_numbered i (w ∷ ws) t u l =
      ⊎_elim
      (λ s. subst (λ b. (k : ℕ) × Numbered i b k) (sym s) (t.0, (omega (arith, t.1, flow.enters w), (ws, t.2))))
      (λ s. leads_numbered i t.2 u s) (has_cases u w ws l)

  -- the rows through a wire take different numbers there
  passing_le : (w i : ℕ) (rs : List (List ℕ)) → Traces x i rs → (free : ℕ → Bool) → ((l j : ℕ) → i ≤ l → Numbered l w j → free j ≡ true)
      → passing rs w ≤ sum_of (λ j. one_if (free j)) (ranks (x.through w))
  passing_le w i [] t free h = omega arith
  passing_le w i (r ∷ rs) t free h =
      ⊎_elim
      (λ s.
      let n : (j : ℕ) × Numbered i w j = traced_numbered i r t.0 w s in
      let is_free : free n.0 ≡ true = h i n.0 (omega arith) n.1 in
      let rest : passing rs w ≤ sum_of (λ j. one_if (free j && not (eqb j n.0))) (ranks (x.through w)) =
      passing_le w (suc i) rs t.1 (λ j. free j && not (eqb j n.0))
      (λ l j k m. ap₂ (λ a b. a && not b) (h l j (omega arith) m)
      (ne_eqb j n.0 (λ e. let same : l ≡ i = leads_same x l i m.1.1 (subst (λ b. Leads x i w b n.1.1.0) (sym e) n.1.1.1) in
      absurd (omega arith)))) in
      omega (
        arith,
        rest,
        ap one_if s,
        sum_same (λ j. one_if (free j)) (λ j. one_if (free j && not (eqb j n.0)) + one_if (eqb j n.0)) (ranks (x.through w))
            (all_of (λ j. apart_one free n.0 is_free j) (ranks (x.through w))),
        sum_add (λ j. one_if (free j && not (eqb j n.0))) (λ j. one_if (eqb j n.0)) (ranks (x.through w)),
        one_at n.0 (x.through w) n.1.0,
      ))
      (λ s. omega (arith, ap one_if s, passing_le w (suc i) rs t.1 free (λ l j k m. h l j (omega arith) m)))
      (cases_Bool (has w r))

  traces_routes : (i : ℕ) (rs : List (List ℕ)) → Traces x i rs → AllByRecursion (Route c) rs
  traces_routes i [] t = tt
  traces_routes i (r ∷ rs) t = (traced_route i r t.0, traces_routes (suc i) rs t.1)

  -- a unit's row, traced back from a wire
  back : (i w : ℕ) (j : ℕ) (ws : List ℕ) → j < x.through w → Leads x i w j ws → (r : List ℕ) × Traced x i r
  back i = strong (λ w. (j : ℕ) (ws : List ℕ) → j < x.through w → Leads x i w j ws → (r : List ℕ) × Traced x i r) (λ w below j ws h a.
      ⊎_elim
      (λ l. (w ∷ ws, (j, l, a)))
      (λ l. let t : (v : ℕ) × (e : ℕ) × (v < length c) × (e < x.along v w) × (j - x.start w ≡ sum_of (λ u. x.along u w) (ranks v) + e) =
      locate (λ u. x.along u w) (length c) (j - x.start w) (omega (arith, flow.enters w)) in
      let f : Passes c w t.0 = flow.passed_on t.0 w (omega (arith, t.3)) in
      below t.0 (lower c ordered t.0 w f) (first_to x t.0 w + t.1) (w ∷ ws) (out_fits t.0 w t.1 t.3)
      (goes_to a t.3 refl (omega (arith, t.4))))
      (cases_lt j (x.start w)))

  -- as many units end as begin
  pub finish_value : over c x.finish ≡ value c x
  finish_value =
      let ws : List ℕ = ranks (length c) in
      omega (
        arith,
        sum_same (λ w. x.start w + over c (λ v. x.along v w)) x.through ws (all_of flow.enters ws),
        sum_same (λ v. over c (λ w. x.along v w) + x.finish v) x.through ws (all_of flow.leaves ws),
        sum_add x.start (λ w. over c (λ v. x.along v w)) ws,
        sum_add (λ v. over c (λ w. x.along v w)) x.finish ws,
        sum_swap (λ v w. x.along v w) ws ws,
      )

  rows : (i : ℕ) → i < value c x → (r : List ℕ) × Traced x i r
  rows i h =
      let t : (w : ℕ) × (e : ℕ) × (w < length c) × (e < x.finish w) × (i ≡ sum_of x.finish (ranks w) + e) =
      locate x.finish (length c) i (omega (arith, finish_value)) in
      back i t.0 t.1 [] (omega (arith, t.3, flow.leaves t.0)) (ends_here t.3 t.4)

pub units_have_rows : UnitsHaveRows
units_have_rows c ordered barred price x flow i h = rows c ordered barred price x flow i h

pub traces_are_routes : TracesAreRoutes
traces_are_routes c ordered barred price x flow rs t = (
  traces_routes c ordered barred price x flow 0 rs t,
  λ w n. omega (arith, flow.fits w n, passing_le c ordered barred price x flow w 0 rs t (λ j. true) (λ i j l m. refl), all_ones (x.through w)),
)

-- unit j at v is unit k at w
abbrev Next : Flow → ℕ → ℕ → ℕ → ℕ → Type 0
Next x v j w k = (e : ℕ) × (e < x.along v w) × (j ≡ first_to x v w + e) × (k ≡ first_from x w v + e)

-- the unit that is k at u is, before or there, j at w
data Via (x : Flow) (u k : ℕ) : ℕ → ℕ → Type 0 where
  here : Via x u k u k
  there : {v j w m : ℕ} → Next x v j w m → Via x u k w m → Via x u k v j

same_before : (x : Flow) (v j u i w k : ℕ) → Next x v j w k → Next x u i w k → (v ≡ u) × (j ≡ i)
same_before x v j u i w k s t =
    let e : v ≡ u = locate_same (λ a. x.along a w) v s.0 u t.0 s.1 t.1 (omega (arith, s.3, t.3)) in
    (e, go (ap (λ a. first_from x w a) e) (ap (λ a. first_to x a w) e))
  where
    go : first_from x w v ≡ first_from x w u → first_to x v w ≡ first_to x u w → j ≡ i
    go p q = omega (arith, s.2, s.3, t.2, t.3)

via_last : (x : Flow) {u k v j : ℕ} → Via x u k v j → ((v ≡ u) × (j ≡ k)) ⊎ ((a : ℕ) × (b : ℕ) × Next x a b u k × Via x a b v j)
via_last x here = inl (refl, refl)
via_last x {u = u} {k = k} (there {v = v} {j = j} {w = w} {m = m} n a) =
    ⊎_elim (λ e. inr (v, j, subst₂ (λ p q. Next x v j p q) e.0 e.1 n, here)) (λ t. inr (t.0, t.1, t.2, there n t.3)) (via_last x a)

via_end : (x : Flow) (i w j : ℕ) → j < x.finish w → i ≡ sum_of x.finish (ranks w) + j → {v m : ℕ} {ws : List ℕ} → Leads x i v m ws → Via x w j v m
via_end x i w j h e (ends_here {w = v} {j = m} k f) =
    let s : w ≡ v = locate_same x.finish w j v m h k (omega arith) in
    subst₂ (λ p q. Via x w j p q) s (go (ap (λ a. sum_of x.finish (ranks a)) s)) here
  where
    go : sum_of x.finish (ranks w) ≡ sum_of x.finish (ranks v) → j ≡ m
    go p = omega arith
via_end x i w j h e (goes_to {e = d} a k f g) = there (d, k, f, g) (via_end x i w j h e a)

meet : (x : Flow) (i : ℕ) {w j v m : ℕ} {ws ts : List ℕ} → Leads x i w j ws → Leads x i v m ts → Via x v m w j ⊎ Via x w j v m
meet x i (ends_here {w = w} {j = j} h e) b = inr (via_end x i w j h e b)
meet x i {v = v} {m = m} (goes_to {v = w} {j = j} {w = u} {k = k} {e = d} a h f g) b =
    ⊎_elim
    (λ a. inl (there (d, h, f, g) a))
    (λ a. ⊎_elim
    (λ s. inl (there (d, h, f, g) (subst₂ (λ p q. Via x v m p q) s.0 s.1 here)))
    (λ t. let s : (t.0 ≡ w) × (t.1 ≡ j) = same_before x t.0 t.1 w j u k t.2 (d, h, f, g) in
    inr (subst₂ (λ p q. Via x p q v m) s.0 s.1 t.3))
    (via_last x a))
    (meet x i a b)

-- from one number on there is one row
leads_row : (x : Flow) (i : ℕ) {w j : ℕ} {ws ts : List ℕ} → Leads x i w j ws → Leads x i w j ts → ws ≡ ts
leads_row x i (ends_here h e) (ends_here k f) = refl
leads_row x i (ends_here h e) (goes_to b k f g) = absurd (omega arith)
leads_row x i (goes_to b k f g) (ends_here h e) = absurd (omega arith)
leads_row x i (goes_to {v = v} {w = w} {k = m} {e = d} {ws = ws} a h f g) (goes_to {w = u} {k = n} {e = e} {ws = ts} b k p q) =
    let s : u ≡ w = locate_same (λ t. x.along v t) u e w d k h (omega arith) in
    ap₂ (λ a as'. a ∷ as') (sym s) (leads_row x i a (subst₂ (λ a b. Leads x i a b ts) s (same s (ap (λ a. first_to x v a) s) (ap (λ a. first_from x a v) s)) b))
  where
    same : u ≡ w → first_to x v u ≡ first_to x v w → first_from x u v ≡ first_from x w v → n ≡ m
    same s to from = omega arith

-- a unit that begins at a wire has none before it
begun_same : (x : Flow) {u k v j : ℕ} → k < x.start u → Via x u k v j → (v ≡ u) × (j ≡ k)
begun_same x h a = ⊎_elim (λ s. s) (λ t. absurd (omega (arith, t.2.3))) (via_last x a)

pub one_row_each : OneRowEach
one_row_each x i [] s t u = absurd t
one_row_each x i (w ∷ ws) [] t u = absurd u
one_row_each x i (w ∷ ws) (v ∷ vs) t u =
    let e : (w ≡ v) × (t.0 ≡ u.0) =
    ⊎_elim (begun_same x u.1) (λ a. let s : (v ≡ w) × (u.0 ≡ t.0) = begun_same x t.1 a in (sym s.0, sym s.1)) (meet x i t.2 u.2) in
    ap₂ (λ a as'. a ∷ as') e.0 (leads_row x i (subst₂ (λ p q. Leads x i p q ws) e.0 e.1 t.2) u.2)
