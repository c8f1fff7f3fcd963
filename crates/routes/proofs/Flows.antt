-- Flows and cuts.
use Rattle.std.proofs.Common.{◌≡◌, ℕ, ◌+◌, ◌<◌, ◌≤◌, Bool, true, false, cond, not, ◌&&◌, ◌⊎◌, List, [], ◌∷◌, length, sym, refl, ap, ◌∙◌, subst, ap₂, inl, inr, ⊎_elim, arith}
use Rattle.std.proofs.lemmas.Bool.{true≢false, cases_Bool, cases_lt, and_parts, not-true}
use Rattle.circuits.specs.declared.making.Making.{Making}
use Rattle.circuits.specs.declared.making.Making.TheVariants.{Input, Constant, Copy, Inversion, Sum, Product}
use Rattle.routes.specs.Routes.{at, Takes, Multiplies, PassesOn, IsProduct, Passes, Ordered, Wires, Joined, last, Ends, Route, Hits, Ahead, starts, goes_on}
use Rattle.routes.specs.Sums.{ranks}
use Rattle.routes.specs.Plans.{FreeOf}
use Rattle.routes.specs.Flows.{over, value, IsCut, capacity, FlowsBoundCuts, Flow, IsFlow}
use Rattle.routes.specs.Residuals.{border, BorderIsFullCut, BorderIsEarliestCut, Place, Step, Reached, Closed, entry, exit, pass_one, unpass_one, send_on, take_back, at_product, by_step}
use Rattle.routes.proofs.Sums.{sum_le, sum_same, sum_add, sum_swap, all_of, sum_tight, cond_sum}
use Rattle.routes.proofs.Wires.{product_in, passes_in, passes_operand, operand_lower, not_both, is, is_true, from_is}
use Rattle.routes.proofs.Levels.{strong, ahead_route}

-- a wire made so begins a row, or goes on from one without a wire of the set
abbrev FedBy : List Making → Wires → Making → Type 0
FedBy c q m = Multiplies m ⊎ ((v : ℕ) × PassesOn m v × Ahead c q v)

abbrev pub Fed : List Making → Wires → ℕ → Type 0
Fed c q w = IsProduct c w ⊎ ((v : ℕ) × Passes c w v × Ahead c q v)

fed_in : (c : List Making) (q : Wires) (w : ℕ) → Fed c q w → w < length c
fed_in c q w f = ⊎_elim (product_in c w) (λ t. passes_in c w t.0 t.1) f

pub fed_ahead : (c : List Making) (q : Wires) (w : ℕ) → Fed c q w → q w ≡ false → Ahead c q w
fed_ahead c q w f n = ⊎_elim (λ s. starts s n) (λ t. goes_on t.2 t.1 n) f

pub ahead_fed : (c : List Making) (q : Wires) {w : ℕ} → Ahead c q w → Fed c q w × (q w ≡ false)
ahead_fed c q (starts f n) = (inl f, n)
ahead_fed c q (goes_on {v = v} a f n) = (inr (v, f, a), n)

fed_by : (c : List Making) (q : Wires) (m : Making) → ((v : ℕ) → Takes m v → Dec (Ahead c q v)) → Dec (FedBy c q m)
fed_by c q Input h = no (⊎_elim (λ f. f) (λ t. t.1))
fed_by c q (Constant b) h = no (⊎_elim (λ f. f) (λ t. t.1))
fed_by c q (Copy a) h = elim (h a refl) [ yes y ↦ yes (inr (a, refl, y)) | no n ↦ no (⊎_elim (λ f. f) (λ t. n (subst (Ahead c q) t.1 t.2))) ]
fed_by c q (Inversion a) h = elim (h a refl) [ yes y ↦ yes (inr (a, refl, y)) | no n ↦ no (⊎_elim (λ f. f) (λ t. n (subst (Ahead c q) t.1 t.2))) ]
fed_by c q (Sum a b) h =
    elim (h a (inl refl)) [
      | yes y ↦ yes (inr (a, inl refl, y))
      | no n ↦ elim (h b (inr refl)) [
        | yes y ↦ yes (inr (b, inr refl, y))
        | no k ↦ no (⊎_elim (λ f. f) (λ t. ⊎_elim (λ s. n (subst (Ahead c q) s t.2)) (λ s. k (subst (Ahead c q) s t.2)) t.1))
      ]
    ]
fed_by c q (Product a b) h = yes (inl tt)

pub ahead? : (c : List Making) → Ordered c → (q : Wires) (w : ℕ) → Dec (Ahead c q w)
ahead? c ordered q = strong (λ w. Dec (Ahead c q w)) (λ w below. go w (fed_by c q (at c w) (λ v o. below v (operand_lower c ordered w v o))))
  where
    go : (w : ℕ) → Dec (Fed c q w) → Dec (Ahead c q w)
    go w (no n) = no (λ a. n (ahead_fed c q a).0)
    go w (yes f) = ⊎_elim (λ t. no (λ a. true≢false (sym t ∙ (ahead_fed c q a).1))) (λ t. yes (fed_ahead c q w f t)) (cases_Bool (q w))

pub fed? : (c : List Making) → Ordered c → (q : Wires) (w : ℕ) → Dec (Fed c q w)
fed? c ordered q w = fed_by c q (at c w) (λ v o. ahead? c ordered q v)

module _ (c : List Making) (barred : Wires) (price : ℕ → ℕ) (x : Flow) (flow : IsFlow c barred price x) where
  -- the units in a set of entries begin there or come from exits, and those in a set of exits go on to entries
  balance : (e o : ℕ → Bool) → ((w : ℕ) → 0 < x.start w → e w ≡ true) → ((w : ℕ) → o w ≡ true → x.finish w ≡ 0)
      → over c (λ w. cond (e w) (x.through w) 0) + over c (λ v. over c (λ w. cond (o v) (x.along v w) 0))
      ≡ value c x + over c (λ v. over c (λ w. cond (e w) (x.along v w) 0)) + over c (λ v. cond (o v) (x.through v) 0)
  balance e o begins ends =
      let ws : List ℕ = ranks (length c) in
      let into : over c (λ w. cond (e w) (x.through w) 0) ≡ over c (λ w. x.start w + over c (λ v. cond (e w) (x.along v w) 0)) =
      sum_same (λ w. cond (e w) (x.through w) 0) (λ w. x.start w + over c (λ v. cond (e w) (x.along v w) 0)) ws
      (all_of (λ w. enter w (e w) (begins w)) ws) in
      let out_of : over c (λ v. cond (o v) (x.through v) 0) ≡ over c (λ v. over c (λ w. cond (o v) (x.along v w) 0)) =
      sum_same (λ v. cond (o v) (x.through v) 0) (λ v. over c (λ w. cond (o v) (x.along v w) 0)) ws
      (all_of (λ v. leave v (o v) (ends v)) ws) in
      omega (
        arith,
        into,
        out_of,
        sum_add (λ w. x.start w) (λ w. over c (λ v. cond (e w) (x.along v w) 0)) ws,
        sum_swap (λ w v. cond (e w) (x.along v w) 0) ws ws,
      )
    where
      enter : (w : ℕ) (b : Bool) → (0 < x.start w → b ≡ true) → cond b (x.through w) 0 ≡ x.start w + over c (λ v. cond b (x.along v w) 0)
      enter w true h = omega (arith, flow.enters w)
      enter w false h =
          let none : x.start w ≡ 0 = ⊎_elim (λ k. absurd (true≢false (sym (h k)))) (λ k. omega arith) (cases_lt 0 (x.start w)) in
          omega (arith, cond_sum false (λ v. x.along v w) (ranks (length c)))

      leave : (v : ℕ) (b : Bool) → (b ≡ true → x.finish v ≡ 0) → cond b (x.through v) 0 ≡ over c (λ w. cond b (x.along v w) 0)
      leave v true h = omega (arith, flow.leaves v, h refl)
      leave v false h = omega (arith, cond_sum false (λ w. x.along v w) (ranks (length c)))

  -- the border of a closed search
  module _ (mark : Place → Bool) (closed : Closed c barred price x mark) where
    reached : {a : Place} → mark a ≡ true → Reached c barred price x a
    reached {a} h = (closed.exact a).0 h

    marked : {a : Place} → Reached c barred price x a → mark a ≡ true
    marked {a} h = (closed.exact a).1 h

    marked_step : {a b : Place} → mark a ≡ true → Step c barred price x a b → mark b ≡ true
    marked_step h s = marked (by_step (reached h) s)

    border_true : (w : ℕ) → mark (entry w) ≡ true → mark (exit w) ≡ false → border mark w ≡ true
    border_true w h k = ap₂ (λ a b. a && not b) h k

    border_parts : (w : ℕ) → border mark w ≡ true → (mark (entry w) ≡ true) × (mark (exit w) ≡ false)
    border_parts w h =
        let t : (mark (entry w) ≡ true) × (not (mark (exit w)) ≡ true) = and_parts (mark (entry w)) (not (mark (exit w))) h in
        (t.0, not-true (mark (exit w)) t.1)

    border_walk : (v : ℕ) (ws : List ℕ) → mark (exit v) ≡ true → Joined c v ws → Ends c (last v ws) → Hits (border mark) ws
    border_walk v [] h j e = not_both h (closed.ended v e)
    border_walk v (w ∷ ws) h j e =
        let inside : mark (entry w) ≡ true = marked_step h (send_on j.0) in
        ⊎_elim (λ k. inr (border_walk w ws k j.1 e)) (λ k. inl (border_true w inside k)) (cases_Bool (mark (exit w)))

    border_cut : IsCut c (border mark)
    border_cut [] r = absurd r
    border_cut (w ∷ ws) r =
        let inside : mark (entry w) ≡ true = marked (at_product r.0) in
        ⊎_elim (λ k. inr (border_walk w ws k r.1 r.2)) (λ k. inl (border_true w inside k)) (cases_Bool (mark (exit w)))

    border_free : FreeOf barred (border mark)
    border_free w h =
        let t : (mark (entry w) ≡ true) × (mark (exit w) ≡ false) = border_parts w h in
        ⊎_elim (λ k. not_both (marked_step t.0 (pass_one (inl k))) t.1) (λ k. k) (cases_Bool (barred w))

    -- a border wire is full
    border_full : (w : ℕ) → mark (entry w) ≡ true → mark (exit w) ≡ false → x.through w ≡ price w
    border_full w h k =
        let fits : x.through w ≤ price w = flow.fits w (border_free w (border_true w h k)) in
        ⊎_elim (λ l. not_both (marked_step h (pass_one (inr l))) k) (λ l. omega arith) (cases_lt (x.through w) (price w))

    -- what is in at the entry passes the border or is in at the exit
    border_split : (w : ℕ) → cond (mark (entry w)) (x.through w) 0 ≡ cond (border mark w) (price w) 0 + cond (mark (exit w)) (x.through w) 0
    border_split w = go (mark (entry w)) (mark (exit w)) (border_full w) empty
      where
        empty : mark (entry w) ≡ false → mark (exit w) ≡ true → x.through w ≡ 0
        empty h k = ⊎_elim (λ l. not_both (marked_step k (unpass_one l)) h) (λ l. omega arith) (cases_lt 0 (x.through w))

        go : (a b : Bool) → (a ≡ true → b ≡ false → x.through w ≡ price w) → (a ≡ false → b ≡ true → x.through w ≡ 0)
            → cond a (x.through w) 0 ≡ cond (a && not b) (price w) 0 + cond b (x.through w) 0
        go true true f h = omega arith
        go true false f h = omega (arith, f refl refl)
        go false true f h = omega (arith, h refl refl)
        go false false f h = omega arith

    -- where units go on from a wire to the next, its exit and the entry of the next are marked both or neither
    border_along : (v w : ℕ) → cond (mark (entry w)) (x.along v w) 0 ≡ cond (mark (exit v)) (x.along v w) 0
    border_along v w = go (mark (entry w)) (mark (exit v)) (λ l h. marked_step h (take_back l)) (λ l h. marked_step h (send_on (flow.passed_on v w l)))
      where
        go : (a b : Bool) → (0 < x.along v w → a ≡ true → b ≡ true) → (0 < x.along v w → b ≡ true → a ≡ true)
            → cond a (x.along v w) 0 ≡ cond b (x.along v w) 0
        go true true f h = refl
        go true false f h = ⊎_elim (λ l. not_both (f l refl) refl) (λ l. omega arith) (cases_lt 0 (x.along v w))
        go false true f h = ⊎_elim (λ l. not_both (h l refl) refl) (λ l. omega arith) (cases_lt 0 (x.along v w))
        go false false f h = refl

    border_capacity : capacity c price (border mark) ≡ value c x
    border_capacity =
        let ws : List ℕ = ranks (length c) in
        let ends : (w : ℕ) → mark (exit w) ≡ true → x.finish w ≡ 0 =
        λ w h. ⊎_elim (λ l. not_both h (closed.ended w (flow.to_products w l))) (λ l. omega arith) (cases_lt 0 (x.finish w)) in
        let split : over c (λ w. cond (mark (entry w)) (x.through w) 0) ≡ over c (λ w. cond (border mark w) (price w) 0 + cond (mark (exit w)) (x.through w) 0) =
        sum_same (λ w. cond (mark (entry w)) (x.through w) 0) (λ w. cond (border mark w) (price w) 0 + cond (mark (exit w)) (x.through w) 0) ws (all_of border_split ws) in
        let alongs : over c (λ v. over c (λ w. cond (mark (entry w)) (x.along v w) 0)) ≡ over c (λ v. over c (λ w. cond (mark (exit v)) (x.along v w) 0)) =
        sum_same (λ v. over c (λ w. cond (mark (entry w)) (x.along v w) 0)) (λ v. over c (λ w. cond (mark (exit v)) (x.along v w) 0)) ws
        (all_of (λ v. sum_same (λ w. cond (mark (entry w)) (x.along v w) 0) (λ w. cond (mark (exit v)) (x.along v w) 0) ws (all_of (border_along v) ws)) ws) in
        omega (
          arith,
          split,
          alongs,
          balance (λ w. mark (entry w)) (λ w. mark (exit w)) (λ w l. marked (at_product (flow.from_products w l))) ends,
          sum_add (λ w. cond (border mark w) (price w) 0) (λ w. cond (mark (exit w)) (x.through w) 0) ws,
        )

    -- a wire ahead of the border has a marked exit
    leaves_marked : (w : ℕ) → mark (entry w) ≡ true → border mark w ≡ false → mark (exit w) ≡ true
    leaves_marked w h k = ⊎_elim (λ l. l) (λ l. not_both (border_true w h l) k) (cases_Bool (mark (exit w)))

    ahead_marked : {w : ℕ} → Ahead c (border mark) w → mark (exit w) ≡ true
    ahead_marked (starts {w = w} f n) = leaves_marked w (marked (at_product f)) n
    ahead_marked (goes_on {w = w} a f n) = leaves_marked w (marked_step (ahead_marked a) (send_on f)) n

  -- another cut
  module _ (ordered : Ordered c) (q : Wires) (cut : IsCut c q) (free : FreeOf barred q) where
    e : ℕ → Bool
    e w = is (fed? c ordered q w)

    o : ℕ → Bool
    o w = e w && not (q w)

    e_true : (w : ℕ) → Fed c q w → e w ≡ true
    unfolding e
    e_true w h = is_true (fed? c ordered q w) h

    e_fed : (w : ℕ) → e w ≡ true → Fed c q w
    unfolding e
    e_fed w h = from_is (fed? c ordered q w) h

    o_ahead : (w : ℕ) → o w ≡ true → Ahead c q w
    unfolding o
    o_ahead w h =
        let t : (e w ≡ true) × (not (q w) ≡ true) = and_parts (e w) (not (q w)) h in
        fed_ahead c q w (e_fed w t.0) (not-true (q w) t.1)

    o_true : (w : ℕ) → e w ≡ true → q w ≡ false → o w ≡ true
    unfolding o
    o_true w h k = ap₂ (λ a b. a && not b) h k

    o_on : (v w : ℕ) → o v ≡ true → Passes c w v → e w ≡ true
    o_on v w h f = e_true w (inr (v, f, o_ahead v h))

    o_ends : (w : ℕ) → o w ≡ true → x.finish w ≡ 0
    o_ends w h =
        ⊎_elim
        (λ l. let t : (r : List ℕ) × Route c r × (Hits q r → ⊥) = ahead_route c q (o_ahead w h) [] tt (λ y. y) (flow.to_products w l) in
        absurd (t.2 (cut t.0 t.1)))
        (λ l. omega arith) (cases_lt 0 (x.finish w))

    held : ℕ → ℕ
    held w = cond (e w && q w) (x.through w) 0

    split : (w : ℕ) → cond (e w) (x.through w) 0 ≡ held w + cond (o w) (x.through w) 0
    unfolding o held
    split w = go (e w) (q w)
      where
        go : (a b : Bool) → cond a (x.through w) 0 ≡ cond (a && b) (x.through w) 0 + cond (a && not b) (x.through w) 0
        go true true = omega arith
        go true false = omega arith
        go false true = omega arith
        go false false = omega arith

    held_le : (w : ℕ) → held w ≤ cond (q w) (price w) 0
    unfolding held
    held_le w = go (e w) (q w) (λ h. flow.fits w (free w h))
      where
        go : (a b : Bool) → (b ≡ true → x.through w ≤ price w) → cond (a && b) (x.through w) 0 ≤ cond b (price w) 0
        go true true h = h refl
        go true false h = omega arith
        go false true h = omega arith
        go false false h = omega arith

    along_le : (v w : ℕ) → cond (o v) (x.along v w) 0 ≤ cond (e w) (x.along v w) 0
    along_le v w = go (o v) (e w) (λ l h. o_on v w h (flow.passed_on v w l))
      where
        go : (a b : Bool) → (0 < x.along v w → a ≡ true → b ≡ true) → cond a (x.along v w) 0 ≤ cond b (x.along v w) 0
        go true true h = omega arith
        go true false h = ⊎_elim (λ l. not_both (h l refl) refl) (λ l. omega arith) (cases_lt 0 (x.along v w))
        go false true h = omega arith
        go false false h = omega arith

    -- the units that the cut holds are those of the value, and those that come back over it
    crossing : over c held + over c (λ v. over c (λ w. cond (o v) (x.along v w) 0)) ≡ value c x + over c (λ v. over c (λ w. cond (e w) (x.along v w) 0))
    crossing =
        let ws : List ℕ = ranks (length c) in
        omega (
          arith,
          balance e o (λ w l. e_true w (inl (flow.from_products w l))) o_ends,
          sum_same (λ w. cond (e w) (x.through w) 0) (λ w. held w + cond (o w) (x.through w) 0) ws (all_of split ws),
          sum_add held (λ w. cond (o w) (x.through w) 0) ws,
        )

    alongs_le : (v : ℕ) → over c (λ w. cond (o v) (x.along v w) 0) ≤ over c (λ w. cond (e w) (x.along v w) 0)
    alongs_le v = sum_le (λ w. cond (o v) (x.along v w) 0) (λ w. cond (e w) (x.along v w) 0) (ranks (length c)) (all_of (along_le v) (ranks (length c)))

    all_along_le : over c (λ v. over c (λ w. cond (o v) (x.along v w) 0)) ≤ over c (λ v. over c (λ w. cond (e w) (x.along v w) 0))
    all_along_le =
        sum_le (λ v. over c (λ w. cond (o v) (x.along v w) 0)) (λ v. over c (λ w. cond (e w) (x.along v w) 0)) (ranks (length c)) (all_of alongs_le (ranks (length c)))

    all_held_le : over c held ≤ capacity c price q
    all_held_le = sum_le held (λ w. cond (q w) (price w) 0) (ranks (length c)) (all_of held_le (ranks (length c)))

    bound : value c x ≤ capacity c price q
    bound = omega (arith, crossing, all_along_le, all_held_le)

    -- a cut of no more capacity than the value is full, and nothing comes back over it
    module _ (cheap : capacity c price q ≤ value c x) where
      full : (w : ℕ) → w < length c → cond (q w) (price w) 0 ≡ held w
      full = sum_tight (λ w. cond (q w) (price w) 0) held (length c) held_le (omega (arith, crossing, all_along_le))

      no_return : (v w : ℕ) → v < length c → w < length c → cond (e w) (x.along v w) 0 ≡ cond (o v) (x.along v w) 0
      no_return v w lv lw =
          sum_tight (λ w. cond (e w) (x.along v w) 0) (λ w. cond (o v) (x.along v w) 0) (length c) (along_le v)
          (omega (
            arith,
            sum_tight (λ v. over c (λ w. cond (e w) (x.along v w) 0)) (λ v. over c (λ w. cond (o v) (x.along v w) 0)) (length c) alongs_le
                (omega (arith, crossing, all_held_le)) v lv,
          )) w lw

      full_at : (w : ℕ) → e w ≡ true → q w ≡ true → price w ≡ x.through w
      unfolding held
      full_at w h k =
          let t : cond (q w) (price w) 0 ≡ cond (e w && q w) (x.through w) 0 = full w (fed_in c q w (e_fed w h)) in
          omega (arith, t, ap (λ b. cond b (price w) 0) k, ap₂ (λ a b. cond (a && b) (x.through w) 0) h k)

      -- steps from within stay within
      Within : Place → Type 0
      Within (entry w) = e w ≡ true
      Within (exit w) = o w ≡ true

      within_step : {a b : Place} → Step c barred price x a b → Within a → Within b
      unfolding Within
      within_step (pass_one {w = w} s) h =
          ⊎_elim
          (λ k. let f : price w ≡ x.through w = full_at w h k in
          ⊎_elim (λ b. not_both b (free w k)) (λ l. absurd (omega arith)) s)
          (λ k. o_true w h k) (cases_Bool (q w))
      within_step (unpass_one {w = w} s) h = unfold o in (and_parts (e w) (not (q w)) h).0
      within_step (send_on {v = v} {w = w} f) h = o_on v w h f
      within_step (take_back {v = v} {w = w} l) h =
          let f : Passes c w v = flow.passed_on v w l in
          let lw : w < length c = passes_in c w v f in
          let lv : v < w = operand_lower c ordered w v (passes_operand c w v f) in
          let same : cond (e w) (x.along v w) 0 ≡ cond (o v) (x.along v w) 0 = no_return v w (omega arith) lw in
          ⊎_elim (λ k. k)
          (λ k. absurd (omega (arith, ap (λ b. cond b (x.along v w) 0) h, ap (λ b. cond b (x.along v w) 0) k)))
          (cases_Bool (o v))

      within : {a : Place} → Reached c barred price x a → Within a
      unfolding Within
      within (at_product {w = w} f) = e_true w (inl f)
      within (by_step r s) = within_step s (within r)

pub flows_bound_cuts : FlowsBoundCuts
flows_bound_cuts c ordered barred price x flow q cut free = bound c barred price x flow ordered q cut free

pub border_is_full_cut : BorderIsFullCut
border_is_full_cut c ordered barred price x flow mark closed =
    (border_cut c barred price x flow mark closed, border_free c barred price x flow mark closed, border_capacity c barred price x flow mark closed)

pub border_is_earliest_cut : BorderIsEarliestCut
border_is_earliest_cut c ordered barred price x flow mark closed q cut free cheap w a =
    o_ahead c barred price x flow ordered q cut free w
    (unfold Within in within c barred price x flow ordered q cut free cheap (reached c barred price x flow mark closed (ahead_marked c barred price x flow mark closed a)))
