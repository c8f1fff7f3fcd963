-- A walk over one push, one step tried, one pop.
use Rattle.std.proofs.Common.{◌≡◌, ℕ, ◌+◌, ◌-◌, ◌*◌, ◌<◌, ◌≤◌, min, Bool, true, false, ◌≢◌, List, length, get_or, sym, ap, ◌∙◌, subst, inl, inr, ⊎_elim, arith}
use Rattle.std.proofs.lemmas.Bool.{cases_eq}
use Rattle.search.specs.Graphs.{Step, Reaches, row, Inside}
use Rattle.search.specs.Graphs.Reaches.{start, onward}
use Rattle.search.specs.Rows.{mark, stacked, tried}
use Rattle.search.specs.Searches.{Fresh, Led, Done, Path}
use Rattle.search.specs.Walks.{tally, pushed, moved, Walk}
use Rattle.search.proofs.Totals.{sum_le, sum_falls, tally_room, tally_fits, load, load_marked, load_free, loads, ahead}
use Rattle.search.proofs.Writes.{kept_refl, kept_trans, moved_kept, moved_mark, moved_stacked, moved_here, moved_other, pushed_kept, mark_new, mark_old, stacked_new, stacked_old, tried_new, tried_old}

-- what is marked stays marked
abbrev Grows : ℕ → ℕ → List ℕ → List ℕ → Type 0
Grows base n m m' = (q : ℕ) → q < n → 0 < mark base m q → 0 < mark base m' q

done_grows : (lists : List (List ℕ)) (goal : ℕ → Bool) (base n : ℕ) (m m' : List ℕ) (p : ℕ) → Inside n lists → Grows base n m m' → p < n → Done lists goal base m p → Done lists goal base m' p
done_grows lists goal base n m m' p ins grows pl d =
    record { plain = d.plain; led = λ j h l. grows _ (ins.leads p j pl l) (d.led j h l) }

-- what was not marked at the end was not at the start
free_before : (base : ℕ) (m m' : List ℕ) (p : ℕ) → (0 < mark base m p → 0 < mark base m' p) → mark base m' p ≡ 0 → mark base m p ≡ 0
free_before base m m' p grows free =
    ⊎_elim (λ (e : mark base m p ≡ 0). e) (λ (ne : mark base m p ≡ 0 → ⊥). absurd (let z : ⊥ = omega (arith, grows (omega arith), free) in z)) (cases_eq (mark base m p) 0)

module _ (lists : List (List ℕ)) (goal chosen : ℕ → Bool) (base n : ℕ) where
  pub walk_refl : (m : List ℕ) → base + 3 * n ≤ length m → Walk lists goal chosen base n m m 0
  walk_refl m room =
      record {
        kept = kept_refl base (base + 3 * n) m;
        stack = record { room = room; count = omega arith; below = λ k h. absurd (let z : ⊥ = omega arith in z) };
        path = record {
          first = λ h. absurd (let z : ⊥ = omega arith in z);
          steps = λ k h. absurd (let z : ⊥ = omega arith in z);
          apart = λ j k h l. absurd (let z : ⊥ = omega arith in z);
        };
        ours = λ k h. absurd (let z : ⊥ = omega arith in z);
        led = λ k h. absurd (let z : ⊥ = omega arith in z);
        spread = record {
          stays = λ p h f. f;
          reached = λ p h f. absurd (let z : ⊥ = omega (arith, f.0, f.1) in z);
          closed = λ p h f. absurd (let z : ⊥ = omega (arith, f.0, f.1) in z);
        };
      }

-- one place more
module _ (lists : List (List ℕ)) (goal chosen : ℕ → Bool) (base n : ℕ) (m₀ m : List ℕ) (h q : ℕ)
    (ins : Inside n lists) (w : Walk lists goal chosen base n m₀ m h) (inside : q < n) (free : mark base m q ≡ 0)
    (root : h ≡ 0 → chosen q ≡ true) (step : 0 < h → Step lists (stacked base n m (h - 1)) q) where
  short : h < n
  short = omega (arith, w.stack.count, tally_room base n m q inside free)

  new_mark : mark base (pushed base n m h q) q ≡ 1
  new_mark = mark_new base n m h q w.stack.room inside short

  old_mark : (x : ℕ) → x < n → x ≢ q → mark base (pushed base n m h q) x ≡ mark base m x
  old_mark = mark_old base n m h q w.stack.room inside short

  new_place : stacked base n (pushed base n m h q) h ≡ q
  new_place = stacked_new base n m h q w.stack.room inside short

  old_place : (k : ℕ) → k < h → stacked base n (pushed base n m h q) k ≡ stacked base n m k
  old_place = stacked_old base n m h q w.stack.room inside short

  pub push_grows : Grows base n m (pushed base n m h q)
  push_grows x l f =
      ⊎_elim
      (λ (e : x ≡ q). omega (arith, ap (mark base (pushed base n m h q)) e, new_mark))
      (λ (ne : x ≡ q → ⊥). omega (arith, f, old_mark x l ne))
      (cases_eq x q)

  top_is : (p : ℕ) → p ≡ q → stacked base n (pushed base n m h q) h ≡ p
  top_is p e = new_place ∙ sym e

  apart_from : (k : ℕ) → k < h → stacked base n m k ≢ q
  apart_from k l e = omega (arith, (w.ours k l).1, ap (mark base m) e, free)

  at_each : (P : ℕ → Type 0) → P q → ((k : ℕ) → k < h → P (stacked base n m k)) → (k : ℕ) → k < h + 1 → P (stacked base n (pushed base n m h q) k)
  at_each P new old k l =
      ⊎_elim
      (λ (e : k ≡ h). subst P (sym (ap (stacked base n (pushed base n m h q)) e ∙ new_place)) new)
      (λ (ne : k ≡ h → ⊥). let l' : k < h = omega arith in subst P (sym (old_place k l')) (old k l'))
      (cases_eq k h)

  reach : Reaches n lists chosen q
  reach =
      ⊎_elim
      (λ (e : h ≡ 0). start inside (root e))
      (λ (ne : h ≡ 0 → ⊥). onward (w.spread.reached _ (w.stack.below (h - 1) (omega arith)) (w.ours (h - 1) (omega arith))) (step (omega arith)))
      (cases_eq h 0)

  pushed_path : Path lists chosen base n (pushed base n m h q) (h + 1)
  pushed_path =
      let m' = pushed base n m h q in
      record {
        first = λ l. ⊎_elim
            (λ (e : h ≡ 0). subst (λ x. chosen x ≡ true) (sym (ap (stacked base n m') (sym e) ∙ new_place)) (root e))
            (λ (ne : h ≡ 0 → ⊥). let some : 0 < h = omega arith in subst (λ x. chosen x ≡ true) (sym (old_place 0 some)) (w.path.first some))
            (cases_eq h 0);
        steps = λ k l. ⊎_elim
            (λ (e : k + 1 ≡ h).
            let a : stacked base n m' k ≡ stacked base n m (h - 1) = old_place k (omega arith) ∙ ap (stacked base n m) (let s : k ≡ h - 1 = omega arith in s) in
            let b : stacked base n m' (k + 1) ≡ q = ap (stacked base n m') e ∙ new_place in
            subst (λ x. Step lists x (stacked base n m' (k + 1))) (sym a) (subst (λ y. Step lists (stacked base n m (h - 1)) y) (sym b) (step (omega arith))))
            (λ (ne : k + 1 ≡ h → ⊥).
            let l' : k + 1 < h = omega arith in
            subst (λ x. Step lists x (stacked base n m' (k + 1))) (sym (old_place k (omega arith)))
            (subst (λ y. Step lists (stacked base n m k) y) (sym (old_place (k + 1) l')) (w.path.steps k l')))
            (cases_eq (k + 1) h);
        apart = λ j k jk l. ⊎_elim
            (λ (e : k ≡ h). λ same. apart_from j (omega arith) (sym (old_place j (omega arith)) ∙ same ∙ ap (stacked base n m') e ∙ new_place))
            (λ (ne : k ≡ h → ⊥).
            let l' : k < h = omega arith in
            λ same. w.path.apart j k jk l' (sym (old_place j (omega arith)) ∙ same ∙ old_place k l'))
            (cases_eq k h);
      }

  pub walk_push : Walk lists goal chosen base n m₀ (pushed base n m h q) (h + 1)
  walk_push =
      let m' = pushed base n m h q in
      let kept = pushed_kept base n m h q w.stack.room inside short in
      let counted : tally base n m + 1 ≤ tally base n m' =
      sum_falls (λ x. min 1 (mark base m' x)) (λ x. min 1 (mark base m x)) 1 q n inside (omega (arith, free, new_mark)) (λ x l ne. omega (arith, old_mark x l ne)) in
      record {
        kept = kept_trans base (base + 3 * n) m₀ m m' w.kept kept;
        stack = record {
          room = omega (arith, kept.len, w.stack.room);
          count = omega (arith, w.stack.count, counted);
          below = at_each (λ x. x < n) inside w.stack.below;
        };
        path = pushed_path;
        ours = at_each (λ x. Fresh (mark base m₀) base m' x)
            (free_before base m₀ m q (w.spread.stays q inside) free, omega (arith, new_mark))
            (λ k l. let f = w.ours k l in (f.0, push_grows _ (w.stack.below k l) f.1));
        led = at_each (λ x. Led lists base m' x (tried base n m' x))
            (λ j jl jr. absurd (let z : ⊥ = omega (arith, jl, tried_new base n m h q w.stack.room inside short) in z))
            (λ k l j jl jr.
            push_grows _ (ins.leads _ j (w.stack.below k l) jr)
            (w.led k l j (omega (arith, jl, tried_old base n m h q w.stack.room inside short (stacked base n m k) (apart_from k l))) jr));
        spread = record {
          stays = λ p l f. push_grows p l (w.spread.stays p l f);
          reached = λ p l f. ⊎_elim
              (λ (e : p ≡ q). subst (Reaches n lists chosen) (sym e) reach)
              (λ (ne : p ≡ q → ⊥). w.spread.reached p l (f.0, omega (arith, f.1, old_mark p l ne)))
              (cases_eq p q);
          closed = λ p l f. ⊎_elim
              (λ (e : p ≡ q). inl (h, omega arith, top_is p e))
              (λ (ne : p ≡ q → ⊥). ⊎_elim
              (λ on. inl (on.0, omega (arith, on.1), old_place on.0 on.1 ∙ on.2))
              (λ d. inr (done_grows lists goal base n m m' p ins push_grows l d))
              (w.spread.closed p l (f.0, omega (arith, f.1, old_mark p l ne))))
              (cases_eq p q);
        };
      }

  pub push_falls : ahead lists base n (pushed base n m h q) + 2 ≤ ahead lists base n m
  push_falls =
      let m' = pushed base n m h q in
      sum_falls (loads lists base n m) (loads lists base n m') 2 q n inside
      (omega (
        arith,
        load_free (mark base m q) (length (row lists q)) (tried base n m q) free,
        load_marked (mark base m' q) (length (row lists q)) (tried base n m' q) (omega (arith, new_mark)),
      ))
      (λ x l ne.
      let a = old_mark x l ne in
      let b = tried_old base n m h q w.stack.room inside short x ne in
      omega (arith, ap (λ v. load v (length (row lists x)) (tried base n m' x)) a, ap (λ v. load (mark base m x) (length (row lists x)) v) b))

  pub push_tried : (p : ℕ) → p < n → 0 < mark base m p → tried base n (pushed base n m h q) p ≡ tried base n m p
  push_tried p l f = tried_old base n m h q w.stack.room inside short p (λ e. omega (arith, f, ap (mark base m) e, free))

  pub push_marks : 0 < mark base (pushed base n m h q) q
  push_marks = omega (arith, new_mark)

-- v steps of p tried, that lead to marked places
module _ (lists : List (List ℕ)) (goal chosen : ℕ → Bool) (base n : ℕ) (m₀ m : List ℕ) (h p v : ℕ)
    (ins : Inside n lists) (w : Walk lists goal chosen base n m₀ m h) (inside : p < n) (led : Led lists base m p v) where
  same_mark : (x : ℕ) → x < n → mark base (moved base n m p v) x ≡ mark base m x
  same_mark = moved_mark base n m p v w.stack.room inside

  same_place : (k : ℕ) → k < h → stacked base n (moved base n m p v) k ≡ stacked base n m k
  same_place k l = moved_stacked base n m p v w.stack.room inside k (omega (arith, w.stack.count, tally_fits base n m))

  here_tried : tried base n (moved base n m p v) p ≡ v
  here_tried = moved_here base n m p v w.stack.room inside

  same_tried : (x : ℕ) → x ≢ p → tried base n (moved base n m p v) x ≡ tried base n m x
  same_tried = moved_other base n m p v w.stack.room inside

  pub pass_grows : Grows base n m (moved base n m p v)
  pass_grows x l f = omega (arith, f, same_mark x l)

  each_place : (P : ℕ → Type 0) → ((k : ℕ) → k < h → P (stacked base n m k)) → (k : ℕ) → k < h → P (stacked base n (moved base n m p v) k)
  each_place P old k l = subst P (sym (same_place k l)) (old k l)

  led_more : (x : ℕ) → x < n → Led lists base m x (tried base n m x) → Led lists base (moved base n m p v) x (tried base n (moved base n m p v) x)
  led_more x xl old j jl jr =
      pass_grows _ (ins.leads x j xl jr)
      (⊎_elim
      (λ (e : x ≡ p).
      subst (λ y. 0 < mark base m (get_or (row lists y) j 0)) (sym e)
      (led j (omega (arith, jl, ap (tried base n (moved base n m p v)) e, here_tried)) (subst (λ y. j < length (row lists y)) e jr)))
      (λ (ne : x ≡ p → ⊥). old j (omega (arith, jl, same_tried x ne)) jr)
      (cases_eq x p))

  pub walk_pass : Walk lists goal chosen base n m₀ (moved base n m p v) h
  walk_pass =
      let m' = moved base n m p v in
      let kept = moved_kept base n m p v w.stack.room inside in
      let counted : tally base n m ≤ tally base n m' = sum_le (λ x. min 1 (mark base m' x)) (λ x. min 1 (mark base m x)) n (λ x l. omega (arith, same_mark x l)) in
      record {
        kept = kept_trans base (base + 3 * n) m₀ m m' w.kept kept;
        stack = record {
          room = omega (arith, kept.len, w.stack.room);
          count = omega (arith, w.stack.count, counted);
          below = each_place (λ x. x < n) w.stack.below;
        };
        path = record {
          first = λ l. subst (λ x. chosen x ≡ true) (sym (same_place 0 l)) (w.path.first l);
          steps = λ k l. subst (λ x. Step lists x (stacked base n m' (k + 1))) (sym (same_place k (omega arith)))
              (subst (λ y. Step lists (stacked base n m k) y) (sym (same_place (k + 1) l)) (w.path.steps k l));
          apart = λ j k jk l same. w.path.apart j k jk l (sym (same_place j (omega arith)) ∙ same ∙ same_place k l);
        };
        ours = each_place (λ x. Fresh (mark base m₀) base m' x) (λ k l. let f = w.ours k l in (f.0, pass_grows _ (w.stack.below k l) f.1));
        led = each_place (λ x. Led lists base m' x (tried base n m' x)) (λ k l. led_more (stacked base n m k) (w.stack.below k l) (w.led k l));
        spread = record {
          stays = λ x l f. pass_grows x l (w.spread.stays x l f);
          reached = λ x l f. w.spread.reached x l (f.0, omega (arith, f.1, same_mark x l));
          closed = λ x l f. ⊎_elim
              (λ on. inl (on.0, on.1, same_place on.0 on.1 ∙ on.2))
              (λ d. inr (done_grows lists goal base n m m' x ins pass_grows l d))
              (w.spread.closed x l (f.0, omega (arith, f.1, same_mark x l)));
        };
      }

  pub pass_falls : 0 < mark base m p → tried base n m p < v → tried base n m p < length (row lists p) → ahead lists base n (moved base n m p v) + 1 ≤ ahead lists base n m
  pass_falls f more left =
      let m' = moved base n m p v in
      let d = length (row lists p) in
      sum_falls (loads lists base n m) (loads lists base n m') 1 p n inside
      (omega (
        arith,
        more,
        left,
        here_tried,
        load_marked (mark base m p) d (tried base n m p) f,
        load_marked (mark base m' p) d (tried base n m' p) (pass_grows p inside f),
      ))
      (λ x l ne.
      omega (arith, ap (λ v. load v (length (row lists x)) (tried base n m' x)) (same_mark x l), ap (λ v. load (mark base m x) (length (row lists x)) v) (same_tried x ne)))

-- one place less
pub walk_pop : (lists : List (List ℕ)) (goal chosen : ℕ → Bool) (base n : ℕ) (m₀ m : List ℕ) (r : ℕ) → Walk lists goal chosen base n m₀ m (r + 1)
    → goal (stacked base n m r) ≡ false → Led lists base m (stacked base n m r) (length (row lists (stacked base n m r))) → Walk lists goal chosen base n m₀ m r
walk_pop lists goal chosen base n m₀ m r w plain led =
    record {
      kept = w.kept;
      stack = record { room = w.stack.room; count = omega (arith, w.stack.count); below = λ k l. w.stack.below k (omega arith) };
      path = record {
        first = λ l. w.path.first (omega arith);
        steps = λ k l. w.path.steps k (omega arith);
        apart = λ j k jk l. w.path.apart j k jk (omega arith);
      };
      ours = λ k l. w.ours k (omega arith);
      led = λ k l. w.led k (omega arith);
      spread = record {
        stays = w.spread.stays;
        reached = w.spread.reached;
        closed = λ p l f. ⊎_elim
            (λ on. ⊎_elim
            (λ (e : on.0 ≡ r).
            let top : stacked base n m r ≡ p = ap (stacked base n m) (sym e) ∙ on.2 in
            inr (subst (Done lists goal base m) top (record { plain = plain; led = led })))
            (λ (ne : on.0 ≡ r → ⊥). inl (on.0, omega (arith, on.1, ne), on.2))
            (cases_eq on.0 r))
            (λ d. inr d)
            (w.spread.closed p l f);
      };
    }
