-- What a search over the residual graph decides.
use Rattle.std.proofs.Common.{◌≡◌, ℕ, ◌+◌, ◌-◌, ◌*◌, ◌/◌, ◌%◌, ◌<◌, ◌≤◌, true, not, ◌&&◌, eqb, ltb, ◌↔◌, List, [], map, length, get_or, ◌≢◌, sym, ap, ◌∙◌, subst, ⊎_elim, arith}
use Rattle.std.specs.List.{range_with_len, list_any, AllPairs}
use Rattle.std.proofs.lemmas.List.FromFn.{get_or-map-range_with_len, length-map-range_with_len}
use Rattle.std.proofs.lemmas.List.Folds.{Any-from_list_any}
use Rattle.std.proofs.lemmas.Map.Made.{IsDistinct-from_AllPairs}
use Rattle.std.proofs.lemmas.Map.Steps.{length-le_from_distinct_below}
use Rattle.std.proofs.lemmas.Bool.Decides.{Decides-eqb}
use Rattle.std.proofs.lemmas.List.{get_or_past}
use Rattle.std.proofs.lemmas.Bool.{cases_lt, eqb-true}
use Rattle.routes.specs.Routes.{Ordered, Passes, Ends}
use Rattle.search.specs.Graphs.{row, Step, Reaches, start, onward}
use Rattle.search.specs.Rows.{stacked}
use Rattle.search.specs.Searches.{Reached, Missed}
use Rattle.rows.specs.Rows.{cell}
use Rattle.rows.proofs.Feeding.{fed_right, fed_all}
use Rattle.flows.specs.Stacks.{stacked as height}
use Rattle.flows.specs.Residual.{In, residual}
use Rattle.flows.specs.Found.{chosen, goal, Comes, start as comes_first, onward as comes_on, Found, Missed as FlowMissed}
use Rattle.flows.proofs.Residual.{residual_inside, residual_same}
use Rattle.flows.proofs.Found.{found_is_stack, missed_is_closed}
use Rattle.graphs.specs.Fronts.{front_of, lists_of}
use Rattle.graphs.specs.Meanings.{residual_graph}
use Rattle.graphs.specs.Outcomes.{lists_in, ResidualOutcomes, LoadFeeds, ResidualDecides}
use Rattle.graphs.proofs.Fronts.{rows_in_front, PastFront, off_front, only_past, lists_are_fed, loaded_by_front}
use Rattle.graphs.specs.ResidualSteps.{residual_row}

-- different numbers below n are at most n
at_most : (n h : ℕ) (f : ℕ → ℕ) → ((k : ℕ) → k < h → f k < n) → ((j k : ℕ) → j < k → k < h → f j ≡ f k → ⊥) → h ≤ n
at_most n h f below apart = omega (arith, long, length-le_from_distinct_below xs n (IsDistinct-from_AllPairs Decides-eqb xs differ) low)
  where
    xs : List ℕ
    xs = map f (range_with_len 0 h)

    long : length xs ≡ h
    long = length-map-range_with_len f 0 h

    at : (k d : ℕ) → k < h → get_or xs k d ≡ f k
    at k d l = get_or-map-range_with_len f 0 h k k d l (omega arith)

    differ : AllPairs (λ x y. x ≢ y) xs
    differ j k d a b e = apart j k a (omega (arith, b, long)) (sym (at j d (omega (arith, a, b, long))) ∙ e ∙ at k d (omega (arith, b, long)))

    low : (q : ℕ) → list_any (eqb q) xs ≡ true → q < n
    low q e =
        let k = Any-from_list_any (eqb q) xs e in
        let l : k.0 < h = omega (arith, k.2, long) in
        omega (arith, eqb-true q k.1 k.4, k.3, at k.0 k.1 l, below k.0 l)

-- the memory's numbers in place of those in front
module _ (n : ℕ) (m : List ℕ) where
  abbrev front : List ℕ
  front = front_of n m

  abbrev lists : List (List ℕ)
  lists = (residual_graph n).steps front

  abbrev feeds : ℕ → List ℕ
  feeds = lists_of n front

  chosen_same : (p : ℕ) → chosen front n p ≡ chosen m n p
  chosen_same p = ap (λ ks. eqb (p % 2) 0 && eqb (get_or ks (p / 2) 0) 4) (rows_in_front n m 0 (omega arith))

  goal_same : (p : ℕ) → goal front n p ≡ goal m n p
  goal_same p = ap (λ gs. not (eqb (p % 2) 0) && ltb 0 (get_or gs (p / 2) 0)) (rows_in_front n m 4 (omega arith))

  row_same : (p : ℕ) → p < 2 * n → row lists p ≡ residual m n feeds p
  row_same p h = residual_row n front p h ∙ sym (residual_same PastFront n front m off_front (only_past n m) feeds p)

  no_row : (p : ℕ) → 2 * n ≤ p → row lists p ≡ []
  no_row p h = get_or_past lists p [] (omega (arith, length-map-range_with_len (residual front n feeds) 0 (2 * n)))

  step_in : (p q : ℕ) → Step lists p q → In q (residual m n feeds p)
  step_in p q s =
      ⊎_elim (λ (l : p < 2 * n). subst (In q) (row_same p l) s)
      (λ (l : 2 * n ≤ p). absurd (omega (arith, ap length (no_row p l), s.1)))
      (cases_lt p (2 * n))

  reaches_comes : {p : ℕ} → Reaches (2 * n) lists (chosen front n) p → Comes m n feeds p
  reaches_comes (start {q = q} l h) = comes_first l (sym (chosen_same q) ∙ h)
  reaches_comes (onward {p = p} {q = q} r s) = comes_on (reaches_comes r) (step_in p q s)

  comes_reaches : {p : ℕ} → Comes m n feeds p → (p < 2 * n) × Reaches (2 * n) lists (chosen front n) p
  comes_reaches (comes_first {q = q} l h) = (l, start l (chosen_same q ∙ h))
  comes_reaches (comes_on {p = p} {q = q} c i) =
      let r : (p < 2 * n) × Reaches (2 * n) lists (chosen front n) p = comes_reaches c in
      (residual_inside m n feeds p q r.0 i, onward r.1 (subst (In q) (sym (row_same p r.0)) i))

  height_same : (k : ℕ) → stacked (13 * n) (2 * n) m k ≡ height m n k
  height_same k = ap (λ i. get_or m i 0) (omega arith)

  found_here : (h : ℕ) → Reached lists (goal front n) (chosen front n) (13 * n) (2 * n) m h → Found m n feeds h
  found_here h t =
      let below : (k : ℕ) → k < h → height m n k < 2 * n = λ k l. subst (λ p. p < 2 * n) (height_same k) (t.below k l) in
      let apart : (j k : ℕ) → j < k → k < h → height m n j ≡ height m n k → ⊥ = λ j k a b e. t.path.apart j k a b (height_same j ∙ e ∙ sym (height_same k)) in
      record {
        some = t.some;
        low = at_most (2 * n) h (height m n) below apart;
        below = below;
        first = sym (chosen_same (height m n 0)) ∙ ap (chosen front n) (sym (height_same 0)) ∙ t.path.first t.some;
        steps = λ k l. subst (λ p. In (height m n (k + 1)) (residual m n feeds p)) (height_same k)
            (subst (λ q. In q (residual m n feeds (stacked (13 * n) (2 * n) m k))) (height_same (k + 1))
            (step_in (stacked (13 * n) (2 * n) m k) (stacked (13 * n) (2 * n) m (k + 1)) (t.path.steps k l)));
        apart = apart;
        last = sym (goal_same (height m n (h - 1))) ∙ ap (goal front n) (sym (height_same (h - 1))) ∙ t.last;
      }

  missed_here : Missed lists (goal front n) (chosen front n) (13 * n) (2 * n) m → FlowMissed m n feeds
  missed_here t =
      record {
        sound = λ p l k. reaches_comes (t.marks.sound p l k);
        complete = λ p c. t.marks.complete p (comes_reaches c).1;
        none = λ p c. sym (goal_same p) ∙ t.none p (comes_reaches c).1;
      }

pub residual_outcomes : ResidualOutcomes
residual_outcomes n m m' = (
  λ h t. found_here n m' h (subst (λ f. Reached ((residual_graph n).steps f) (goal f n) (chosen f n) (13 * n) (2 * n) m' h) (sym t.rows.front) t.reached),
  λ t. missed_here n m' (subst (λ f. Missed ((residual_graph n).steps f) (goal f n) (chosen f n) (13 * n) (2 * n) m') (sym t.rows.front) t.missed),
)

pub load_feeds : LoadFeeds
load_feeds c n m ordered long loaded = (
  record {
    right = λ v w i. subst (λ d. Passes d w v) (sym loaded.circuit) (fed_right c v w (subst (In w) (lists_are_fed c n m ordered long loaded v) i));
    all = λ v w p. subst (In w) (sym (lists_are_fed c n m ordered long loaded v)) (fed_all c v w (subst (λ d. Passes d w v) loaded.circuit p));
  },
  λ w. subst (λ d. (0 < cell m n 4 w) ↔ Ends d w) (sym loaded.circuit) (loaded.goals w),
)

pub residual_decides : ResidualDecides
residual_decides c n m m' ordered long loaded = (
  λ h t. let l = loaded_by_front c n m m' long t.rows.front loaded in
      let f = load_feeds c n m' ordered long l in
      found_is_stack m' n (lists_in m' n) (subst Ordered (sym l.circuit) ordered) f.0 f.1 h ((residual_outcomes n m m').0 h t),
  λ t. let l = loaded_by_front c n m m' long t.rows.front loaded in
      let f = load_feeds c n m' ordered long l in
      missed_is_closed m' n (lists_in m' n) (subst Ordered (sym l.circuit) ordered) f.0 f.1 ((residual_outcomes n m m').1 t),
)
