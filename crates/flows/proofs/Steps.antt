-- Steps by the numbers of their places.
use Rattle.std.proofs.Common.{◌≡◌, ℕ, zero, suc, ◌+◌, ◌-◌, ◌*◌, ◌/◌, ◌%◌, ◌<◌, ◌≤◌, Bool, true, false, cond, ◌&&◌, eqb, ◌⊎◌, List, [], length, sym, refl, ap, ◌∙◌, subst, ap₂, inl, inr, ⊎_elim, arith}
use Rattle.std.specs.List.{AllByRecursion}
use Rattle.std.proofs.lemmas.Bool.{cases_eq, cases_lt, eq-eqb, ne_eqb}
use Rattle.circuits.specs.declared.making.Making.{Making}
use Rattle.routes.specs.Routes.{IsProduct, Passes, Ordered, Wires}
use Rattle.routes.specs.Sums.{ranks, one_if}
use Rattle.routes.specs.Plans.{Blocked, ones}
use Rattle.routes.specs.Flows.{Flow, IsFlow, value}
use Rattle.routes.specs.Residuals.{Place, entry, exit, Step, pass_one, unpass_one, send_on, take_back}
use Rattle.routes.specs.Paths.{more_at, less_at, more_along, less_along, stepped, Trail, begun, after, ended_at, Lacks}
use Rattle.routes.specs.Stored.{with_along, with_through}
use Rattle.routes.proofs.Sums.{term_le, sum_ones}
use Rattle.routes.proofs.Wires.{product_in, passes_in, lower}
use Rattle.routes.proofs.Paths.{Still, lack_step, still_kept, sent_flow, sent_value, ended_lacks}
use Rattle.routes.proofs.Cuts.{flows_are_small}
use Rattle.flows.specs.Stacks.{side, place, numbered, moved, begun_at, Small, Path, below, PathsAreTrails, Pending}

-- places by number
pub place_even : (k : ℕ) → k % 2 ≡ 0 → place k ≡ entry (k / 2)
place_even k e = ap (λ t. side t (k / 2)) (eq-eqb (k % 2) 0 e)

pub place_odd : (k : ℕ) → (k % 2 ≡ 0 → ⊥) → place k ≡ exit (k / 2)
place_odd k n = ap (λ t. side t (k / 2)) (ne_eqb (k % 2) 0 n)

pub number_place : (k : ℕ) → numbered (place k) ≡ k
number_place k =
    ⊎_elim (λ e. ap numbered (place_even k e) ∙ omega arith) (λ n. ap numbered (place_odd k n) ∙ odd n) (cases_eq (k % 2) 0)
  where
    odd : (k % 2 ≡ 0 → ⊥) → 2 * (k / 2) + 1 ≡ k
    odd n = omega arith

pub same_number : (a b : ℕ) → place a ≡ place b → a ≡ b
same_number a b e = sym (number_place a) ∙ ap numbered e ∙ number_place b

-- what a step needs, by its ends
abbrev Needs : List Making → Wires → Flow → Place → Place → Type 0
Needs c barred y (entry w) (entry v) = ⊥
Needs c barred y (entry w) (exit v) = (w ≡ v) ⊎ (0 < y.along v w)
Needs c barred y (exit v) (entry w) = ((v ≡ w) × (0 < y.through w)) ⊎ Passes c w v
Needs c barred y (exit w) (exit v) = ⊥

step_needs : (c : List Making) (barred : Wires) (y : Flow) {a b : Place} → Step c barred ones y a b → Needs c barred y a b
step_needs c barred y (pass_one s) = inl refl
step_needs c barred y (unpass_one s) = inl (refl, s)
step_needs c barred y (send_on s) = inr s
step_needs c barred y (take_back s) = inr s

module _ (c : List Making) (ordered : Ordered c) (barred : Wires) (y : Flow) (a b : ℕ) (s : Step c barred ones y (place a) (place b)) where
  at_ends : {p q : Place} → place a ≡ p → place b ≡ q → Needs c barred y p q
  at_ends {p} {q} e f = subst (λ r. Needs c barred y r q) e (subst (λ r. Needs c barred y (place a) r) f (step_needs c barred y s))

  pub even_odd : a % 2 ≡ 0 → b % 2 ≡ 0 → ⊥
  even_odd e f = at_ends (place_even a e) (place_even b f)

  pub odd_even : (a % 2 ≡ 0 → ⊥) → (b % 2 ≡ 0 → ⊥) → ⊥
  odd_even e f = at_ends (place_odd a e) (place_odd b f)

  higher : (v w : ℕ) → Passes c w v → v ≡ w → ⊥
  higher v w f e = let l : v < w = lower c ordered v w f in omega arith

  pub unpass_needs : (a % 2 ≡ 0 → ⊥) → a / 2 ≡ b / 2 → 0 < y.through (b / 2)
  unpass_needs e same =
      ⊎_elim (λ f. absurd (odd_even e f))
      (λ f. ⊎_elim (λ t. t.1) (λ t. absurd (higher (a / 2) (b / 2) t same)) (at_ends (place_odd a e) (place_even b f)))
      (flip (cases_eq (b % 2) 0))
    where
      flip : {A B : Type 0} → A ⊎ B → B ⊎ A
      flip (inl x) = inr x
      flip (inr x) = inl x

  pub send_needs : (a % 2 ≡ 0 → ⊥) → (a / 2 ≡ b / 2 → ⊥) → Passes c (b / 2) (a / 2)
  send_needs e other =
      ⊎_elim
      (λ f. ⊎_elim (λ t. absurd (other t.0)) (λ t. t) (at_ends (place_odd a e) (place_even b f)))
      (λ f. absurd (odd_even e f))
      (cases_eq (b % 2) 0)

  pub take_needs : a % 2 ≡ 0 → (a / 2 ≡ b / 2 → ⊥) → 0 < y.along (b / 2) (a / 2)
  take_needs e other =
      ⊎_elim
      (λ f. absurd (even_odd e f))
      (λ f. ⊎_elim (λ t. absurd (other t)) (λ t. t) (at_ends (place_even a e) (place_odd b f)))
      (cases_eq (b % 2) 0)

  abbrev goal : Flow
  goal = moved (place a) (place b) y

  other_even : (a % 2 ≡ 0 → ⊥) → place b ≡ entry (b / 2)
  other_even e = ⊎_elim (λ f. place_even b f) (λ f. absurd (odd_even e f)) (cases_eq (b % 2) 0)

  other_odd : a % 2 ≡ 0 → place b ≡ exit (b / 2)
  other_odd e = ⊎_elim (λ f. absurd (even_odd e f)) (λ f. place_odd b f) (cases_eq (b % 2) 0)

  pub pass_moved : a % 2 ≡ 0 → a / 2 ≡ b / 2 → goal ≡ with_through (more_at (b / 2) y.through) y
  pass_moved e same =
      ap₂ (λ p q. moved p q y) (place_even a e) (other_odd e)
      ∙ ap (λ t. cond t (with_through (more_at (a / 2) y.through) y) (with_along (less_along (b / 2) (a / 2) y.along) y)) (eq-eqb (a / 2) (b / 2) same)
      ∙ ap (λ w. with_through (more_at w y.through) y) same

  pub unpass_moved : (a % 2 ≡ 0 → ⊥) → a / 2 ≡ b / 2 → goal ≡ with_through (less_at (b / 2) y.through) y
  unpass_moved e same =
      ap₂ (λ p q. moved p q y) (place_odd a e) (other_even e)
      ∙ ap (λ t. cond t (with_through (less_at (b / 2) y.through) y) (with_along (more_along (a / 2) (b / 2) y.along) y)) (eq-eqb (a / 2) (b / 2) same)

  pub send_moved : (a % 2 ≡ 0 → ⊥) → (a / 2 ≡ b / 2 → ⊥) → goal ≡ with_along (more_along (a / 2) (b / 2) y.along) y
  send_moved e other =
      ap₂ (λ p q. moved p q y) (place_odd a e) (other_even e)
      ∙ ap (λ t. cond t (with_through (less_at (b / 2) y.through) y) (with_along (more_along (a / 2) (b / 2) y.along) y)) (ne_eqb (a / 2) (b / 2) other)

  pub take_moved : a % 2 ≡ 0 → (a / 2 ≡ b / 2 → ⊥) → goal ≡ with_along (less_along (b / 2) (a / 2) y.along) y
  take_moved e other =
      ap₂ (λ p q. moved p q y) (place_even a e) (other_odd e)
      ∙ ap (λ t. cond t (with_through (more_at (a / 2) y.through) y) (with_along (less_along (b / 2) (a / 2) y.along) y)) (ne_eqb (a / 2) (b / 2) other)

-- the same change, by the step
module _ (c : List Making) (ordered : Ordered c) (barred : Wires) (y : Flow) (passed : (v w : ℕ) → 0 < y.along v w → Passes c w v) where
  apart_of : (v w : ℕ) → Passes c w v → v ≡ w → ⊥
  apart_of v w f e = let l : v < w = lower c ordered v w f in omega arith

  moved_stepped : {a b : Place} (s : Step c barred ones y a b) → moved a b y ≡ stepped s y
  moved_stepped (pass_one {w = w} s) = ap (λ t. cond t (with_through (more_at w y.through) y) (with_along (less_along w w y.along) y)) (eq-eqb w w refl)
  moved_stepped (unpass_one {w = w} s) = ap (λ t. cond t (with_through (less_at w y.through) y) (with_along (more_along w w y.along) y)) (eq-eqb w w refl)
  moved_stepped (send_on {v = v} {w = w} s) =
      ap (λ t. cond t (with_through (less_at w y.through) y) (with_along (more_along v w y.along) y)) (ne_eqb v w (apart_of v w s))
  moved_stepped (take_back {v = v} {w = w} s) =
      ap (λ t. cond t (with_through (more_at w y.through) y) (with_along (less_along v w y.along) y)) (ne_eqb w v (λ e. apart_of v w (passed v w s) (sym e)))

  still_here : {a b : Place} (s : Step c barred ones y a b) → Still c ordered barred ones y s y
  still_here (pass_one s) = s
  still_here (unpass_one s) = s
  still_here (send_on s) = tt
  still_here (take_back s) = s

  again : {a b : Place} (s : Step c barred ones y a b) (z : Flow) → Still c ordered barred ones y s z → Step c barred ones z a b
  again (pass_one s) z h = pass_one h
  again (unpass_one s) z h = unpass_one h
  again (send_on s) z h = send_on s
  again (take_back s) z h = take_back h

  stepped_total : {a b : Place} (s : Step c barred ones y a b) → value c (stepped s y) ≡ value c y
  stepped_total (pass_one s) = refl
  stepped_total (unpass_one s) = refl
  stepped_total (send_on s) = refl
  stepped_total (take_back s) = refl

one_at_most : (t : Bool) → one_if t ≤ 1
one_at_most true = omega arith
one_at_most false = omega arith

module _ (c : List Making) (barred : Wires) (y : Flow) (k : ℕ) (h : Small y k) where
  more_small : {a b : Place} (s : Step c barred ones y a b) → Small (stepped s y) (k + 1)
  more_small (pass_one {w = w} s) =
      record {
        starts = λ u. omega (arith, h.starts u);
        alongs = λ u v. omega (arith, h.alongs u v);
        finishes = λ u. omega (arith, h.finishes u);
        throughs = λ u. omega (arith, h.throughs u, one_at_most (eqb u w));
      }
  more_small (unpass_one {w = w} s) =
      record {
        starts = λ u. omega (arith, h.starts u);
        alongs = λ u v. omega (arith, h.alongs u v);
        finishes = λ u. omega (arith, h.finishes u);
        throughs = λ u. omega (arith, h.throughs u);
      }
  more_small (send_on {v = v} {w = w} s) =
      record {
        starts = λ u. omega (arith, h.starts u);
        alongs = λ p q. omega (arith, h.alongs p q, one_at_most (eqb p v && eqb q w));
        finishes = λ u. omega (arith, h.finishes u);
        throughs = λ u. omega (arith, h.throughs u);
      }
  more_small (take_back {v = v} {w = w} s) =
      record {
        starts = λ u. omega (arith, h.starts u);
        alongs = λ p q. omega (arith, h.alongs p q);
        finishes = λ u. omega (arith, h.finishes u);
        throughs = λ u. omega (arith, h.throughs u);
      }

  ended_small : (w : ℕ) → Small (ended_at w y) (k + 1)
  ended_small w =
      record {
        starts = λ u. omega (arith, h.starts u);
        alongs = λ p q. omega (arith, h.alongs p q);
        finishes = λ u. omega (arith, h.finishes u, one_at_most (eqb u w));
        throughs = λ u. omega (arith, h.throughs u);
      }

pub small_le : (y : Flow) (k l : ℕ) → k ≤ l → Small y k → Small y l
small_le y k l e h =
    record { starts = λ u. omega (arith, h.starts u); alongs = λ u v. omega (arith, h.alongs u v); finishes = λ u. omega (arith, h.finishes u); throughs = λ u. omega (arith, h.throughs u) }

-- a step more
module _ (c : List Making) (ordered : Ordered c) (barred : Wires) (n h : ℕ) (at_height : ℕ → ℕ) (k : ℕ) (y : Flow) (i : ℕ)
    (pending : Pending c barred n h at_height k y (suc i)) where
  abbrev top : Step c barred ones y (place (at_height i)) (place (at_height (suc i)))
  top = pending.steps i (omega arith)

  apart_places : (j : ℕ) → j < suc i → place (at_height j) ≡ place (at_height (suc i)) → ⊥
  apart_places j l e = pending.apart j (suc i) l pending.high (same_number (at_height j) (at_height (suc i)) e)

  stepped_pending : Pending c barred n h at_height k (stepped top y) i
  stepped_pending =
      record {
        high = omega (arith, pending.high);
        low = pending.low;
        within = pending.within;
        apart = pending.apart;
        lacks = lack_step c ordered barred ones y top y (still_here c ordered barred y pending.lacks.passed_on top) pending.lacks;
        steps = λ j l.
            let r : Step c barred ones y (place (at_height j)) (place (at_height (suc j))) = pending.steps j (omega arith) in
            again c ordered barred y pending.lacks.passed_on r (stepped top y)
            (still_kept c ordered barred ones y top r y (apart_places j (omega arith)) (apart_places (suc j) (omega arith)) (still_here c ordered barred y pending.lacks.passed_on r));
        small = small_le (stepped top y) (k + (h - suc i) + 1) (k + (h - i)) (omega (arith, pending.high)) (more_small c barred y (k + (h - suc i)) pending.small top);
        begun = stepped_total c ordered barred y pending.lacks.passed_on top ∙ pending.begun;
      }

  pub pending_more : Pending c barred n h at_height k (moved (place (at_height i)) (place (at_height (suc i))) y) i
  pending_more = subst (λ z. Pending c barred n h at_height k z i) (sym (moved_stepped c ordered barred y pending.lacks.passed_on top)) stepped_pending

-- no number of a flow passes its value
module _ (c : List Making) (ordered : Ordered c) (barred : Wires) (x : Flow) (flow : IsFlow c barred ones x) where
  pub flow_small : Small x (value c x)
  flow_small =
      record {
        starts = λ w. ⊎_elim (λ l. term_le x.start (length c) w (product_in c w (flow.from_products w l))) (λ l. omega arith) (cases_lt 0 (x.start w));
        alongs = λ v w. ⊎_elim
            (λ l. omega (arith, term_le (λ u. x.along v u) (length c) w (passes_in c w v (flow.passed_on v w l)), flow.leaves v, through v))
            (λ l. omega arith) (cases_lt 0 (x.along v w));
        finishes = λ w. omega (arith, flow.leaves w, through w);
        throughs = through;
      }
    where
      through : (w : ℕ) → x.through w ≤ value c x
      through w = (flows_are_small c ordered barred ones x flow).0 w

  pub pending_first : (n h : ℕ) (at_height : ℕ → ℕ) (path : Path c barred x n h at_height)
      → Pending c barred n h at_height (value c x) (ended_at path.ends.0 x) (h - 1)
  pending_first n h at_height path =
      let w : ℕ = path.ends.0 in
      record {
        high = omega (arith, path.some);
        low = path.low;
        within = path.within;
        apart = path.apart;
        lacks = subst (λ p. Lacks c barred ones (ended_at w x) p) (sym path.ends.1) (ended_lacks c ordered barred ones x w path.ends.2 flow);
        steps = λ j l. kept w (path.steps j (omega arith));
        small = small_le (ended_at w x) (value c x + 1) (value c x + (h - (h - 1))) (omega (arith, path.some)) (ended_small c barred x (value c x) flow_small w);
        begun = refl;
      }
    where
      kept : (w : ℕ) {a b : Place} → Step c barred ones x a b → Step c barred ones (ended_at w x) a b
      kept w (pass_one s) = pass_one s
      kept w (unpass_one s) = unpass_one s
      kept w (send_on s) = send_on s
      kept w (take_back s) = take_back s

  -- unless blocked, no more routes than wires
  pub value_few : (Blocked c barred → ⊥) → value c x ≤ length c
  value_few n = omega (arith, (flows_are_small c ordered barred ones x flow).1 n, sum_ones (ranks (length c)), ranks_length (length c))
    where
      ranks_length : (n : ℕ) → length (ranks n) ≡ n
      ranks_length zero = refl
      ranks_length (suc n) = ap suc (ranks_length n)

-- the last unit begins
pub pending_last : (c : List Making) → Ordered c → (barred : Wires) (n h : ℕ) (at_height : ℕ → ℕ) (k : ℕ) (y : Flow) → Pending c barred n h at_height k y 0
    → (w : ℕ) → place (at_height 0) ≡ entry w → IsProduct c w
    → IsFlow c barred ones (begun_at w y) × (value c (begun_at w y) ≡ k + 1)
pending_last c ordered barred n h at_height k y pending w e f = (
  sent_flow c ordered barred ones y (begun f) y tt (subst (λ p. Lacks c barred ones y p) e pending.lacks),
  sent_value c ordered barred ones y (begun f) y ∙ ap (λ v. v + 1) pending.begun,
)

-- a path is a trail
module _ (c : List Making) (barred : Wires) (x : Flow) (n h : ℕ) (at_height : ℕ → ℕ) (path : Path c barred x n h at_height) where
  missing : (i j : ℕ) → j ≤ i → i < h → AllByRecursion (λ p. p ≡ place (at_height i) → ⊥) (below at_height j)
  missing i zero l k = tt
  missing i (suc j) l k = (λ e. path.apart j i (omega arith) k (same_number (at_height j) (at_height i) e), missing i j (omega arith) k)

  trail_to : (i : ℕ) → i < h → Trail c barred ones x (place (at_height i)) (below at_height i)
  trail_to zero l = subst (λ p. Trail c barred ones x p []) (sym path.starts.1) (begun path.starts.2)
  trail_to (suc i) l = after (trail_to i (omega arith)) (path.steps i l) (missing (suc i) (suc i) (omega arith) l)

pub paths_are_trails : PathsAreTrails
paths_are_trails c barred x n h at_height path = trail_to c barred x n h at_height path (h - 1) (omega (arith, path.some))
