-- At limit two a plan is clean exactly when it has a wire of every route.
use Rattle.std.proofs.Common.{◌≡◌, ℕ, zero, suc, ◌+◌, ◌-◌, ◌<◌, ◌≤◌, max, Bool, true, false, cond, ltb, ◌⊎◌, ◌↔◌, List, [], ◌∷◌, ◌++◌, length, get_or, drop, Some, None, sym, refl, ap, ◌∙◌, subst, ap₂, inl, inr, ⊎_elim, add-zero, arith, get_or-drop, below_more}
use Rattle.std.proofs.lemmas.List.{length-drop, drop-drop, get_or_past, length_push, get_or_push, get_or_append_left}
use Rattle.std.proofs.lemmas.Bool.{true≢false, cond-true, cond-false, lt-ltb, le-ltb, cases_lt}
use Rattle.circuits.specs.Growths.{Tables, Level, Grows}
use Rattle.circuits.specs.Levels.{Outcome, rules, own, has, run_from}
use Rattle.circuits.specs.declared.making.Making.{Making}
use Rattle.circuits.specs.declared.making.Making.TheVariants.{Input, Constant, Copy, Inversion, Sum, Product}
use Rattle.routes.specs.Routes.{at, Takes, Multiplies, PassesOn, Operand, Ordered, Wires, Joined, last, Ends, Route, Hits, Ahead, starts, goes_on}
use Rattle.routes.specs.Plans.{wires_of, CleanIsEveryRouteHit, FreshLevelIsOne, CleanAtOneIsCleanAtAll}
use Rattle.routes.proofs.Wires.{operand_lower}

-- induction over all lower numbers
pub strong : (P : ℕ → Type 0) → ((n : ℕ) → ((m : ℕ) → m < n → P m) → P n) → (n : ℕ) → P n
strong P step n = go (suc n) n (omega arith)
  where
    go : (k n : ℕ) → n < k → P n
    go zero n h = absurd (omega arith)
    go (suc k) n h = step n (λ m l. go k m (omega arith))

-- the own level of a wire, where `out` has the outgoing levels of its operands
abbrev own_by : Tables → (ℕ → ℕ) → Making → ℕ
own_by g out Input = 1
own_by g out (Constant b) = 1
own_by g out (Copy a) = out a
own_by g out (Inversion a) = out a
own_by g out (Sum a b) = g.sum (out a) (out b)
own_by g out (Product a b) = g.product (out a) (out b)

-- the own level depends only on the levels of operands
own_by_same : (g : Tables) (f h : ℕ → ℕ) (m : Making) → ((v : ℕ) → Takes m v → f v ≡ h v) → own_by g f m ≡ own_by g h m
own_by_same g f h Input e = refl
own_by_same g f h (Constant b) e = refl
own_by_same g f h (Copy a) e = e a refl
own_by_same g f h (Inversion a) e = e a refl
own_by_same g f h (Sum a b) e = cc (e a (inl refl), e b (inr refl))
own_by_same g f h (Product a b) e = cc (e a (inl refl), e b (inr refl))

-- the own levels of the wires of a rank below a bound; `n` is the level after a refresh
unfoldable own_below : Tables → ℕ → List Making → Wires → ℕ → ℕ → ℕ
own_below g n c p zero w = 1
own_below g n c p (suc bound) w = own_by g (λ v. cond (p v) n (own_below g n c p bound v)) (at c w)

abbrev own_of : Tables → ℕ → List Making → Wires → ℕ → ℕ
own_of g n c p w = own_below g n c p (suc w) w

abbrev sent_by : Tables → ℕ → List Making → Wires → ℕ → ℕ
sent_by g n c p w = cond (p w) n (own_of g n c p w)

module _ (g : Tables) (n : ℕ) (c : List Making) (ordered : Ordered c) (p : Wires) where
  own_below_same : (i j w : ℕ) → w < i → w < j → own_below g n c p i w ≡ own_below g n c p j w
  unfolding own_below
  own_below_same zero j w h k = absurd (omega arith)
  own_below_same (suc i) zero w h k = absurd (omega arith)
  own_below_same (suc i) (suc j) w h k =
      own_by_same g (λ v. cond (p v) n (own_below g n c p i v)) (λ v. cond (p v) n (own_below g n c p j v)) (at c w)
      (λ v o. let l : v < w = operand_lower c ordered w v o in
      ap (λ x. cond (p v) n x) (own_below_same i j v (omega arith) (omega arith)))

  -- each own level is what the growth says of the outgoing levels of the operands
  own_law : (w : ℕ) → own_of g n c p w ≡ own_by g (sent_by g n c p) (at c w)
  unfolding own_below
  own_law w =
      own_by_same g (λ v. cond (p v) n (own_below g n c p w v)) (sent_by g n c p) (at c w)
      (λ v o. let l : v < w = operand_lower c ordered w v o in
      ap (λ x. cond (p v) n x) (own_below_same w (suc v) v (omega arith) (omega arith)))

-- a wire goes out at 1 if it is in the plan, else at its own level
sent_cases : (b : Bool) (x y : ℕ) → x ≡ cond b 1 y → ((b ≡ true) × (x ≡ 1)) ⊎ ((b ≡ false) × (x ≡ y))
sent_cases true x y e = inl (refl, e)
sent_cases false x y e = inr (refl, e)

-- a wire ahead of a set that a product uses ends a route without a wire of the set
pub ahead_route : (c : List Making) (p : Wires) {w : ℕ} → Ahead c p w → (ws : List ℕ) → Joined c w ws → (Hits p ws → ⊥) → Ends c (last w ws)
    → (r : List ℕ) × Route c r × (Hits p r → ⊥)
ahead_route c p (starts {w = w} f n) ws j h e = (w ∷ ws, (f, j, e), ⊎_elim (λ t. true≢false (sym t ∙ n)) h)
ahead_route c p (goes_on {w = w} a f n) ws j h e = ahead_route c p a (w ∷ ws) (f, j) (⊎_elim (λ t. true≢false (sym t ∙ n)) h) e

-- levels at limit two, over any outgoing levels that obey the law
module _ (g : Tables) (laws : Grows g) (c : List Making) (ordered : Ordered c) (p : Wires) (out : ℕ → ℕ)
    (level : (w : ℕ) → out w ≡ cond (p w) 1 (own_by g out (at c w))) where
  -- a level from 1 to 2
  Low : ℕ → Type 0
  Low a = (1 ≤ a) × (a ≤ 2)

  level_low : (a : ℕ) → Low a → Level a
  unfolding Low
  level_low a h = record { low = h.0; high = omega (arith, h.1) }

  sum_low : (a b : ℕ) → Low a → Low b → g.sum a b ≡ max a b
  unfolding Low
  sum_low a b h k = laws.sum_larger a b (level_low a h) (level_low b k)

  product_low : (a b : ℕ) → Low a → Low b → max a b + 1 ≤ g.product a b
  unfolding Low
  product_low a b h k = laws.product_above a b (level_low a h) (level_low b k)

  -- where the operands are low, the own level is at least 1
  own_least : (m : Making) → ((v : ℕ) → Takes m v → Low (out v)) → 1 ≤ own_by g out m
  unfolding Low
  own_least Input h = omega arith
  own_least (Constant b) h = omega arith
  own_least (Copy a) h = (h a refl).0
  own_least (Inversion a) h = (h a refl).0
  own_least (Sum a b) h = omega (arith, sum_low (out a) (out b) (h a (inl refl)) (h b (inr refl)), h a (inl refl))
  own_least (Product a b) h = omega (arith, product_low (out a) (out b) (h a (inl refl)) (h b (inr refl)))

  -- if no own level passes 2, all outgoing levels are low
  clean_low : ((w : ℕ) → own_by g out (at c w) ≤ 2) → (w : ℕ) → Low (out w)
  unfolding Low
  clean_low clean = strong (λ w. Low (out w)) (λ w below.
      let least : 1 ≤ own_by g out (at c w) = own_least (at c w) (λ v o. below v (operand_lower c ordered w v o)) in
      let most : own_by g out (at c w) ≤ 2 = clean w in
      let here : out w ≡ cond (p w) 1 (own_by g out (at c w)) = level w in
      ⊎_elim (λ t. omega (arith, t.1)) (λ t. omega (arith, t.1)) (sent_cases (p w) (out w) (own_by g out (at c w)) here))

  -- a wire that passes on a level of 2 has it as its own level
  pass_high : (m : Making) (v : ℕ) → PassesOn m v → ((w : ℕ) → Low (out w)) → 2 ≤ out v → 2 ≤ own_by g out m
  unfolding Low
  pass_high Input v f low h = absurd f
  pass_high (Constant b) v f low h = absurd f
  pass_high (Copy a) v f low h = subst (λ x. 2 ≤ out x) f h
  pass_high (Inversion a) v f low h = subst (λ x. 2 ≤ out x) f h
  pass_high (Sum a b) v f low h =
      ⊎_elim
      (λ (e : v ≡ a). omega (arith, sum_low (out a) (out b) (low a) (low b), ap out e))
      (λ (e : v ≡ b). omega (arith, sum_low (out a) (out b) (low a) (low b), ap out e)) f
  pass_high (Product a b) v f low h = absurd f

  -- a product has an own level of 2 at least, and of 3 if an operand goes out at 2
  product_high : (m : Making) → Multiplies m → ((w : ℕ) → Low (out w)) → 2 ≤ own_by g out m
  unfolding Low
  product_high Input f low = absurd f
  product_high (Constant b) f low = absurd f
  product_high (Copy a) f low = absurd f
  product_high (Inversion a) f low = absurd f
  product_high (Sum a b) f low = absurd f
  product_high (Product a b) f low = omega (arith, product_low (out a) (out b) (low a) (low b), low a)

  product_past : (m : Making) (v : ℕ) → Multiplies m → Takes m v → ((w : ℕ) → Low (out w)) → 2 ≤ out v → 3 ≤ own_by g out m
  unfolding Low
  product_past Input v f o low h = absurd f
  product_past (Constant b) v f o low h = absurd f
  product_past (Copy a) v f o low h = absurd f
  product_past (Inversion a) v f o low h = absurd f
  product_past (Sum a b) v f o low h = absurd f
  product_past (Product a b) v f o low h =
      ⊎_elim
      (λ (e : v ≡ a). omega (arith, product_low (out a) (out b) (low a) (low b), ap out e))
      (λ (e : v ≡ b). omega (arith, product_low (out a) (out b) (low a) (low b), ap out e)) o

  -- from a wire that goes out at 2, the rest of a route meets the plan
  walk : ((w : ℕ) → own_by g out (at c w) ≤ 2) → (v : ℕ) (ws : List ℕ) → 2 ≤ out v → Joined c v ws → Ends c (last v ws) → Hits p ws
  walk clean v [] h j e =
      let past : 3 ≤ own_by g out (at c e.0) = product_past (at c e.0) v e.1 e.2 (clean_low clean) h in
      absurd (omega (arith, clean e.0))
  walk clean v (w ∷ ws) h j e =
      ⊎_elim (λ t. inl t.0)
      (λ t. let high : 2 ≤ own_by g out (at c w) = pass_high (at c w) v j.0 (clean_low clean) h in
      inr (walk clean w ws (omega (arith, t.1)) j.1 e))
      (sent_cases (p w) (out w) (own_by g out (at c w)) (level w))

  clean_hits : ((w : ℕ) → own_by g out (at c w) ≤ 2) → (r : List ℕ) → Route c r → Hits p r
  clean_hits clean [] r = absurd r
  clean_hits clean (w ∷ ws) r =
      ⊎_elim (λ t. inl t.0)
      (λ t. let high : 2 ≤ own_by g out (at c w) = product_high (at c w) r.0 (clean_low clean) in
      inr (walk clean w ws (omega (arith, t.1)) r.1 r.2))
      (sent_cases (p w) (out w) (own_by g out (at c w)) (level w))

  -- what is known of a wire once the lower ones are known: its level is low, and above 1 only ahead of the plan
  Known : ℕ → Type 0
  Known v = Low (out v) × ((out v ≤ 1) ⊎ Ahead c p v)

  -- where a level of 2 comes from
  Source : Making → Type 0
  Source m = Multiplies m ⊎ ((v : ℕ) × PassesOn m v × Ahead c p v)

  own_known : (m : Making) → ((v : ℕ) → Takes m v → Known v) → (Multiplies m → (v : ℕ) → Takes m v → Ahead c p v → ⊥)
      → (own_by g out m ≤ 2) × ((own_by g out m ≤ 1) ⊎ Source m)
  unfolding Low Known Source
  own_known Input h k = (omega arith, inl (omega arith))
  own_known (Constant b) h k = (omega arith, inl (omega arith))
  own_known (Copy a) h k = ((h a refl).0.1, ⊎_elim inl (λ x. inr (inr (a, refl, x))) (h a refl).1)
  own_known (Inversion a) h k = ((h a refl).0.1, ⊎_elim inl (λ x. inr (inr (a, refl, x))) (h a refl).1)
  own_known (Sum a b) h k =
      let ha : Known a = h a (inl refl) in
      let hb : Known b = h b (inr refl) in
      let e : g.sum (out a) (out b) ≡ max (out a) (out b) = sum_low (out a) (out b) ha.0 hb.0 in (
        omega arith,
        ⊎_elim
            (λ la. ⊎_elim (λ lb. inl (omega arith)) (λ x. inr (inr (b, inr refl, x))) hb.1)
            (λ x. inr (inr (a, inl refl, x))) ha.1,
      )
  own_known (Product a b) h k =
      let ha : Known a = h a (inl refl) in
      let hb : Known b = h b (inr refl) in
      let la : out a ≡ 1 = ⊎_elim (λ l. omega arith) (λ x. absurd (k tt a (inl refl) x)) ha.1 in
      let lb : out b ≡ 1 = ⊎_elim (λ l. omega arith) (λ x. absurd (k tt b (inr refl) x)) hb.1 in
      let e : g.product (out a) (out b) ≡ 2 = ap₂ g.product la lb ∙ laws.product_first in
      (omega arith, inr (inl tt))

  hit_known : ((r : List ℕ) → Route c r → Hits p r) → (w : ℕ) → (own_by g out (at c w) ≤ 2) × Known w
  unfolding Low Known Source
  hit_known hit = strong (λ w. (own_by g out (at c w) ≤ 2) × Known w) (λ w below.
      let before : (v : ℕ) → Operand c w v → Known v = λ v o. (below v (operand_lower c ordered w v o)).1 in
      let least : 1 ≤ own_by g out (at c w) = own_least (at c w) (λ v o. (before v o).0) in
      let k : (own_by g out (at c w) ≤ 2) × ((own_by g out (at c w) ≤ 1) ⊎ Source (at c w)) =
      own_known (at c w) before (λ f v o x.
      let t : (r : List ℕ) × Route c r × (Hits p r → ⊥) = ahead_route c p x [] tt (λ y. y) (w, f, o) in
      t.2 (hit t.0 t.1)) in (
        k.0,
        ⊎_elim
            (λ t. ((omega (arith, t.1), omega (arith, t.1)), inl (omega (arith, t.1))))
            (λ t. (
              (omega (arith, t.1), omega (arith, t.1)),
              ⊎_elim (λ l. inl (omega (arith, t.1)))
                  (⊎_elim (λ f. inr (starts f t.0)) (λ s. inr (goes_on s.2 s.1 t.0))) k.1,
            ))
            (sent_cases (p w) (out w) (own_by g out (at c w)) (level w)),
      ))

-- a level run with these levels so far goes on clean exactly when no own level from here on passes the limit
module _ (g : Tables) (limit n : ℕ) (c : List Making) (ordered : Ordered c) (plan : List ℕ) (f : ℕ → ℕ)
    (law : (w : ℕ) → f w ≡ cond (has w plan) n (own_by g f (at c w))) where
  own_is : (out : List ℕ) (m : Making) → own g out m ≡ own_by g (λ v. get_or out v 0) m
  own_is out Input = refl
  own_is out (Constant b) = refl
  own_is out (Copy a) = refl
  own_is out (Inversion a) = refl
  own_is out (Sum a b) = refl
  own_is out (Product a b) = refl

  own_here : (out : List ℕ) → ((w : ℕ) → w < length out → get_or out w 0 ≡ f w) → own g out (at c (length out)) ≡ own_by g f (at c (length out))
  own_here out same =
      own_is out (at c (length out))
      ∙ own_by_same g (λ v. get_or out v 0) f (at c (length out)) (λ v o. same v (operand_lower c ordered (length out) v o))

  abbrev Stays : ℕ → Type 0
  Stays k = (w : ℕ) → k ≤ w → w < length c → own_by g f (at c w) ≤ limit

  clean_from : (ms : List Making) (out : List ℕ) → drop (length out) c ≡ ms → ((w : ℕ) → w < length out → get_or out w 0 ≡ f w)
      → ((run_from (rules g limit n) plan out ms).answer ≡ None) ↔ Stays (length out)
  clean_from [] out e same =
      let l : length c - length out ≡ 0 = sym (length-drop (length out) c) ∙ ap length e in
      (λ k w h i. absurd (omega arith), λ k. refl)
  clean_from (x ∷ xs) out e same =
      let k : ℕ = length out in
      let l : length c - k ≡ suc (length xs) = sym (length-drop k c) ∙ ap length e in
      let here : at c k ≡ x = ap (λ i. get_or c i Input) (sym (add-zero k)) ∙ sym (get_or-drop k c 0 Input) ∙ ap (λ ys. get_or ys 0 Input) e in
      let level : own g out x ≡ own_by g f (at c k) = sym (ap (own g out) here) ∙ own_here out same in
      let v : ℕ = cond (has k plan) n (own g out x) in
      let is_f : v ≡ f k = ap (cond (has k plan) n) level ∙ sym (law k) in
      let more : List ℕ = out ++ (v ∷ []) in
      let long : length more ≡ k + 1 = length_push out v in
      let rest : drop (length more) c ≡ xs = ap (λ i. drop i c) long ∙ sym (drop-drop 1 k c) ∙ ap (drop 1) e in
      let next : ((run_from (rules g limit n) plan more xs).answer ≡ None) ↔ Stays (length more) =
      clean_from xs more rest (λ w h. below_more (λ w. get_or more w 0 ≡ f w) k (λ u i. get_or_append_left out (v ∷ []) 0 u i ∙ same u i) (get_or_push out v 0 k refl ∙ is_f) w (omega (arith, long))) in
      ⊎_elim
      (λ (past : limit < own g out x).
      let stops : (run_from (rules g limit n) plan out (x ∷ xs)).answer ≡ Some (record { rank = k; level = own g out x }) =
      ap (λ (o : Outcome). o.answer) (cond-true (ltb limit (own g out x)) _ _ (lt-ltb limit (own g out x) past)) in
      (λ a. let z : ◌≡◌ {A = ℕ} 0 1 = cc in absurd (omega arith), λ s. absurd (omega (arith, s k (omega arith) (omega arith)))))
      (λ (low : own g out x ≤ limit).
      let goes : (run_from (rules g limit n) plan out (x ∷ xs)).answer ≡ (run_from (rules g limit n) plan more xs).answer =
      ap (λ (o : Outcome). o.answer) (cond-false (ltb limit (own g out x)) _ _ (le-ltb limit (own g out x) low)) in (
        λ a w h i. ⊎_elim (λ (p : k < w). next.0 (sym goes ∙ a) w (omega (arith, long)) i) (λ (p : w ≤ k). stay w (both w k h p) level low) (cases_lt k w),
        λ s. goes ∙ next.1 (λ w h i. s w (omega (arith, long)) i),
      ))
      (cases_lt limit (own g out x))
    where
      both : (w k : ℕ) → k ≤ w → w ≤ k → k ≡ w
      both w k h p = omega arith

      stay : (w : ℕ) → length out ≡ w → own g out x ≡ own_by g f (at c (length out)) → own g out x ≤ limit → own_by g f (at c w) ≤ limit
      stay w e level low = subst (λ u. own_by g f (at c u) ≤ limit) e (omega arith)

pub clean_is_every_route_hit : CleanIsEveryRouteHit
clean_is_every_route_hit g laws m ordered plan =
    let c : List Making = m in
    let p : Wires = wires_of plan in
    let out : ℕ → ℕ = sent_by g 1 c p in
    let law : (w : ℕ) → out w ≡ cond (p w) 1 (own_by g out (at c w)) = λ w. ap (λ x. cond (p w) 1 x) (own_law g 1 c ordered p w) in
    let run : ((run_from (rules g 2 1) plan [] c).answer ≡ None) ↔ ((w : ℕ) → 0 ≤ w → w < length c → own_by g out (at c w) ≤ 2) =
    clean_from g 2 1 c ordered plan out law c [] refl (λ w h. absurd (omega arith)) in (
      λ clean. clean_hits g laws c ordered p out law (λ w. ⊎_elim (λ l. run.0 clean w (omega arith) l) (λ l. subst (λ x. own_by g out x ≤ 2) (sym (get_or_past c w Input l)) (omega arith)) (cases_lt w (length c))),
      λ hit. run.1 (λ w h l. (hit_known g laws c ordered p out law hit w).0),
    )

pub clean_at_one_is_clean_at_all : CleanAtOneIsCleanAtAll
clean_at_one_is_clean_at_all t laws m ordered plan clean u laws' =
    (clean_is_every_route_hit u laws' m ordered plan).1 ((clean_is_every_route_hit t laws m ordered plan).0 clean)

pub fresh_level_is_one : FreshLevelIsOne
fresh_level_is_one n b = omega (arith, b.fresh_low, b.fresh_high)
