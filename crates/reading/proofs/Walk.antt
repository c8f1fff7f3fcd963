-- The turns of the walk over a gate line's wires.
use Rattle.std.proofs.Common.{◌≡◌, ℕ, ◌+◌, ◌*◌, ◌<◌, ◌≤◌, true, false, cond, not, ◌&&◌, ltb, List, [], length, get_or, take, set, is_ok, Ok, Err, Result, sym, refl, ap, ◌∙◌, subst, ⊎_elim, arith}
use Rattle.std.proofs.lemmas.Bool.{cond-true, cond-false, cases_Bool, and_parts, not-true, not-false}
use Rattle.circuits.specs.declared.making.Entry.{Entry}
use Rattle.circuits.specs.declared.making.Making.{Making}
use Rattle.tokens.specs.declared.fault.Fault.{Fault}
use Rattle.tokens.specs.declared.line.GateLine.{GateLine}
use Rattle.tokens.specs.declared.token.Numeral.{Numeral}
use Rattle.reading.specs.declared.wires.Side.{Side}
use Rattle.reading.specs.declared.wires.Side.TheVariants.{In, Out}
use Rattle.tokens.specs.Faults.{fault_at}
use Rattle.tokens.specs.Lines.{landed, number_at, pass_at}
use Rattle.reading.specs.Wires.{refused, side_refusal, count_of}
use Rattle.reading.specs.Texts.{made, value_at}
use Rattle.reading.specs.Holds.{Keeps, two, making_in, Whole, got}
use Rattle.tokens.proofs.Readings.{ok_same}
use Rattle.reading.proofs.Stand.{Stands, stands_ok, stands_step, stands_next, stands_pass}
use Rattle.reading.proofs.Sides.{none, ins, in_stop, outs, row, stop, side_run, entry, passes, grown, run_one, refused_in, refused_out, out_in, Inner, ins_length, outs_length, ins_first, one_in, other_in, wire_meant, absent, inner_in, inner_out, grows, low}

in_out : In ≡ Out → ⊥
in_out e = out_in (sym e)

module _ (text : List ℕ) (count : ℕ) (g : GateLine) (before : List Entry) where
  pub row_count : Whole text g → (s : Side) → length (row text count g before s) ≡ count_of g s
  row_count whole In = ins_length text count g before whole 0 0 0 0 0 [] []
  row_count whole Out = outs_length text count g before whole 0 0 0 0 0 [] []

  module _ (first next i at left right : ℕ) (table : List Entry) (ranks : List ℕ) where
    pub next_ok : (s : Side) → Inner text count g before first next s i at left right table ranks → i < length (row text count g before s) → is_ok (number_at text at) ≡ true
    next_ok s h lt = stands_ok text (row text count g before s) (stop text count g before s) i at h.here lt

    test_is : (s : Side) → Inner text count g before first next s i at left right table ranks → (v : ℕ) → refused g.rule.making s ranks v ≡ not (passes text count g before s (take next table) v)
    test_is In h v =
        let same : take next table ≡ before = ap (λ k. take k table) (h.idle refl) ∙ h.front in
        subst (λ es. refused g.rule.making In ranks v ≡ not (passes text count g es In (take next table) v)) same (refused_in (length table) (take next table) table ranks h.keeps.held g.rule.making v)
    test_is Out h v = refused_out (length table) (take next table) table ranks h.keeps.held g.rule.making v ∙ ap (λ k. not (ltb v k && not (made (take next table) v))) h.size

    module _ (s : Side) (h : Inner text count g before first next s i at left right table ranks) (lt : i < length (row text count g before s)) (n : Numeral) (on : ℕ) (e : Ok (n, on) ≡ number_at text at) (k : List Entry → Result (List Entry) Fault) where
      is_it : n ≡ get_or (row text count g before s) i none
      is_it = (stands_next text (row text count g before s) (stop text count g before s) none i at h.here lt n on e).0

      one : side_run text count g before s i (take next table) k ≡ cond (passes text count g before s (take next table) n.value) (side_run text count g before s (i + 1) (grown text count g before s i (take next table) n.value) k) (Err (fault_at text (side_refusal s) n.at))
      one = subst (λ m. side_run text count g before s i (take next table) k ≡ cond (passes text count g before s (take next table) m.value) (side_run text count g before s (i + 1) (grown text count g before s i (take next table) m.value) k) (Err (fault_at text (side_refusal s) m.at))) (sym is_it) (run_one text count g before k (take next table) i s lt)

      pub hit : refused g.rule.making s ranks n.value ≡ true → side_run text count g before s i (take next table) k ≡ Err (fault_at text (side_refusal s) n.at)
      hit y = one ∙ cond-false _ _ _ (not-true _ (sym (test_is s h n.value) ∙ y))

      pub good : refused g.rule.making s ranks n.value ≡ false → passes text count g before s (take next table) n.value ≡ true
      good f = not-false _ (sym (test_is s h n.value) ∙ f)

      pub miss : refused g.rule.making s ranks n.value ≡ false → side_run text count g before s i (take next table) k ≡ side_run text count g before s (i + 1) (grown text count g before s i (take next table) n.value) k
      miss f = one ∙ cond-true _ _ _ (good f)

    module _ (whole : Whole text g) (h : Inner text count g before first next Out i at left right table ranks) (lt : i < length (outs text count g before)) where
      read_left : ((got (number_at text left)).0.value ≡ value_at (ins text count g before) i) × Stands text (ins text count g before) (in_stop text count g before) (i + 1) (got (number_at text left)).1
      read_left =
          let t = stands_step text (ins text count g before) (in_stop text count g before) none i left h.one (one_in text count g before whole first next i at left right table ranks h lt) in
          (ap (λ r. (got r).0.value) t.here, subst (λ r. Stands text (ins text count g before) (in_stop text count g before) (i + 1) (got r).1) (sym t.here) t.more)

      read_right : two g.rule.making ≡ true → ((got (number_at text right)).0.value ≡ value_at (ins text count g before) (length (outs text count g before) + i)) × Stands text (ins text count g before) (in_stop text count g before) (length (outs text count g before) + i + 1) (got (number_at text right)).1
      read_right y =
          let t = stands_step text (ins text count g before) (in_stop text count g before) none (length (outs text count g before) + i) right (h.other y) (other_in text count g before whole first next i at left right table ranks h lt y) in
          (ap (λ r. (got r).0.value) t.here, subst (λ r. Stands text (ins text count g before) (in_stop text count g before) (length (outs text count g before) + i + 1) (got r).1) (sym t.here) t.more)

      pub left_ok : is_ok (number_at text left) ≡ true
      left_ok = stands_ok text (ins text count g before) (in_stop text count g before) i left h.one (one_in text count g before whole first next i at left right table ranks h lt)

      pub right_ok : two g.rule.making ≡ true → is_ok (number_at text right) ≡ true
      right_ok y = stands_ok text (ins text count g before) (in_stop text count g before) (length (outs text count g before) + i) right (h.other y) (other_in text count g before whole first next i at left right table ranks h lt y)

      second : cond (two g.rule.making) (got (number_at text right)).0.value 0 ≡ value_at (ins text count g before) (length (outs text count g before) + i)
      second =
          ⊎_elim
          (λ y. cond-true _ _ _ y ∙ (read_right y).0)
          (λ f. cond-false _ _ _ f ∙ sym (absent text count g before whole first next i at left right table ranks h lt f))
          (cases_Bool (two g.rule.making))

      wire_is : (w : Making) → w ≡ making_in g.rule.making ranks (got (number_at text left)).0.value (cond (two g.rule.making) (got (number_at text right)).0.value 0) → w ≡ (entry text count g before i 0).making
      wire_is w e = e ∙ ap (λ a. making_in g.rule.making ranks a (cond (two g.rule.making) (got (number_at text right)).0.value 0)) read_left.0 ∙ ap (making_in g.rule.making ranks (value_at (ins text count g before) i)) second ∙ wire_meant text count g before whole first next i at left right table ranks h lt

      module _ (n : Numeral) (on : ℕ) (e : Ok (n, on) ≡ number_at text at) (f : refused g.rule.making Out ranks n.value ≡ false) where
        abbrev fine : passes text count g before Out (take next table) n.value ≡ true
        fine = good Out h lt n on e (λ es. Ok es) f

        pub named : n.value < length table
        named = omega (arith, h.keeps.held.rows, low text count g before whole first next i at left right table ranks h lt n on e fine)

        pub unmade : made (take next table) n.value ≡ false
        unmade = not-true _ (and_parts _ _ fine).1

        pub record Again (w : Making) (next' left' right' : ℕ) (table' : List Entry) (ranks' : List ℕ) : Type 0 where
          pub making : w ≡ making_in g.rule.making ranks (got (number_at text left)).0.value (cond (two g.rule.making) (got (number_at text right)).0.value 0)
          pub tables : table' ≡ set table next (record { making = w; name = n.value })
          pub names : ranks' ≡ set ranks n.value next
          pub more : next' ≡ next + 1
          pub lefts : left' ≡ (got (number_at text left)).1
          pub rights : right' ≡ cond (two g.rule.making) (got (number_at text right)).1 right

        module _ (w : Making) (next' left' right' : ℕ) (table' : List Entry) (ranks' : List ℕ) (a : Again w next' left' right' table' ranks') where
          abbrev new : Entry
          new = entry text count g before i n.value

          new_table : table' ≡ set table next new
          new_table = a.tables ∙ ap (λ x. set table next (record { making = x; name = n.value })) (wire_is w a.making)

          pub again_out : Inner text count g before first next' Out (i + 1) on left' right' table' ranks'
          again_out =
              subst (λ t. Inner text count g before first next' Out (i + 1) on left' right' t ranks') (sym new_table)
              (subst (λ r. Inner text count g before first next' Out (i + 1) on left' right' (set table next new) r) (sym a.names)
              (subst (λ m. Inner text count g before first m Out (i + 1) on left' right' (set table next new) (set ranks n.value next)) (sym a.more)
              (inner_out text count g before whole first next i at left right table ranks h lt n on e fine left' right'
              (subst (λ x. Stands text (ins text count g before) (in_stop text count g before) (i + 1) x) (sym a.lefts) read_left.1)
              (λ y. subst (λ x. Stands text (ins text count g before) (in_stop text count g before) (length (outs text count g before) + i + 1) x) (sym (a.rights ∙ cond-true _ _ _ y)) (read_right y).1))))

          pub again_run : (k : List Entry → Result (List Entry) Fault) → side_run text count g before Out i (take next table) k ≡ side_run text count g before Out (i + 1) (take next' table') k
          again_run k =
              miss Out h lt n on e k f
              ∙ ap (λ es. side_run text count g before Out (i + 1) es k) (sym (grows text count g before whole first next i at left right table ranks h lt n on e fine).1)
              ∙ ap (λ t. side_run text count g before Out (i + 1) (take (next + 1) t) k) (sym new_table)
              ∙ ap (λ m. side_run text count g before Out (i + 1) (take m table') k) (sym a.more)

    -- an input passes
    pub again_in : Whole text g → (h : Inner text count g before first next In i at left right table ranks) → (lt : i < length (ins text count g before)) → (n : Numeral) (on : ℕ) → (e : Ok (n, on) ≡ number_at text at) → refused g.rule.making In ranks n.value ≡ false → Inner text count g before first next In (i + 1) on left right table ranks
    again_in whole h lt n on e f =
        inner_in text count g before whole first next i at left right table ranks h lt
        (subst (λ m. passes text count g before In (take next table) m.value ≡ true) (is_it In h lt n on e (λ es. Ok es)) (good In h lt n on e (λ es. Ok es) f)) n on e

  -- the walk begins
  landed_on : (r : Result (Unit {0}) Fault) (on on' : ℕ) → landed r on ≡ Ok (tt, on') → on ≡ on'
  landed_on (Ok t) on on' e = ap (λ p. p.1) (ok_same _ _ e)
  landed_on (Err f) on on' e = absurd (let z : ◌≡◌ {A = ℕ} 0 1 = cc in omega arith)

  pub passed_right : Whole text g → (r : Result (Unit {0}) Fault) (at on : ℕ) → at ≡ g.wires → landed r on ≡ pass_at text g.results at → two g.rule.making ≡ true → Stands text (ins text count g before) (in_stop text count g before) (length (outs text count g before) + 0) on
  passed_right whole r at on here e y =
      let il : length (ins text count g before) ≡ g.inputs = ins_length text count g before whole 0 0 0 0 0 [] [] in
      let ol : length (outs text count g before) ≡ g.results = outs_length text count g before whole 0 0 0 0 0 [] [] in
      let c : g.inputs ≡ 2 * g.results = whole.counts ∙ cond-true _ _ _ y in
      let t = stands_pass text (ins text count g before) (in_stop text count g before) g.results 0 g.wires (ins_first text count g before whole 0 0 0 0 0 [] []) (omega arith) in
      let k : 0 + g.results ≡ length (outs text count g before) + 0 = omega arith in
      let same : on ≡ t.on = landed_on r on t.on (e ∙ ap (pass_at text g.results) here ∙ t.here) in
      subst (λ x. Stands text (ins text count g before) (in_stop text count g before) (length (outs text count g before) + 0) x) (sym same) (subst (λ j. Stands text (ins text count g before) (in_stop text count g before) j t.on) k t.more)

  pub begins : Whole text g → (first at right : ℕ) (table : List Entry) (ranks : List ℕ) → length table ≡ count → take first table ≡ before → Keeps first table ranks → at ≡ g.wires → (two g.rule.making ≡ true → Stands text (ins text count g before) (in_stop text count g before) (length (outs text count g before) + 0) right) → Inner text count g before first first In 0 at at right table ranks
  begins whole first at right table ranks size front keeps here other =
      let start : Stands text (ins text count g before) (in_stop text count g before) 0 at = subst (λ x. Stands text (ins text count g before) (in_stop text count g before) 0 x) (sym here) (ins_first text count g before whole 0 0 0 0 0 [] []) in
      record { size = size; keeps = keeps; since = omega arith; front = front; idle = λ _. refl; here = start; one = start; other = other; tested = refl }

  module _ (whole : Whole text g) (first next i at left right : ℕ) (table : List Entry) (ranks : List ℕ) where
    pub in_row : (s : Side) (n : ℕ) → n ≡ count_of g s → i < n → i < length (row text count g before s)
    in_row s n e lt = omega (arith, row_count whole s)

    pub past_row : (s : Side) (n : ℕ) → n ≡ count_of g s → n ≤ i → length (row text count g before s) ≤ i
    past_row s n e le = omega (arith, row_count whole s)

    pub asks_out : (s : Side) → s ≡ Out → Inner text count g before first next s i at left right table ranks → i < length (row text count g before s) → (is_ok (number_at text left) ≡ true) × (two g.rule.making ≡ true → is_ok (number_at text right) ≡ true)
    asks_out In q h lt = absurd (in_out q)
    asks_out Out q h lt = (left_ok first next i at left right table ranks whole h lt, right_ok first next i at left right table ranks whole h lt)

    pub puts_out : (s : Side) → s ≡ Out → Inner text count g before first next s i at left right table ranks → i < length (row text count g before s) → (n : Numeral) (on : ℕ) → Ok (n, on) ≡ number_at text at → refused g.rule.making s ranks n.value ≡ false → (n.value < length table) × (made (take next table) n.value ≡ false)
    puts_out In q h lt n on e f = absurd (in_out q)
    puts_out Out q h lt n on e f = (named first next i at left right table ranks whole h lt n on e f, unmade first next i at left right table ranks whole h lt n on e f)

    pub turn_out : (s : Side) → s ≡ Out → Inner text count g before first next s i at left right table ranks → i < length (row text count g before s) → (n : Numeral) (on : ℕ) → Ok (n, on) ≡ number_at text at → refused g.rule.making s ranks n.value ≡ false
        → (w : Making) (next' left' right' : ℕ) (table' : List Entry) (ranks' : List ℕ)
        → w ≡ making_in g.rule.making ranks (got (number_at text left)).0.value (cond (two g.rule.making) (got (number_at text right)).0.value 0)
        → table' ≡ set table next (record { making = w; name = n.value }) → ranks' ≡ set ranks n.value next → next' ≡ next + 1 → left' ≡ (got (number_at text left)).1 → right' ≡ cond (two g.rule.making) (got (number_at text right)).1 right
        → Inner text count g before first next' s (i + 1) on left' right' table' ranks' × ((k : List Entry → Result (List Entry) Fault) → side_run text count g before s (i + 1) (take next' table') k ≡ side_run text count g before s i (take next table) k)
    turn_out In q h lt n on e f w next' left' right' table' ranks' a b c d l r = absurd (in_out q)
    turn_out Out q h lt n on e f w next' left' right' table' ranks' a b c d l r =
        let again : Again first next i at left right table ranks whole h lt n on e f w next' left' right' table' ranks' = record { making = a; tables = b; names = c; more = d; lefts = l; rights = r } in
        (again_out first next i at left right table ranks whole h lt n on e f w next' left' right' table' ranks' again, λ k. sym (again_run first next i at left right table ranks whole h lt n on e f w next' left' right' table' ranks' again k))

    pub turn_in : (s : Side) → (s ≡ Out → ⊥) → Inner text count g before first next s i at left right table ranks → i < length (row text count g before s) → (n : Numeral) (on : ℕ) → Ok (n, on) ≡ number_at text at → refused g.rule.making s ranks n.value ≡ false
        → (next' left' right' : ℕ) (table' : List Entry) (ranks' : List ℕ) → table' ≡ table → ranks' ≡ ranks → next' ≡ next → left' ≡ left → right' ≡ right
        → Inner text count g before first next' s (i + 1) on left' right' table' ranks' × ((k : List Entry → Result (List Entry) Fault) → side_run text count g before s (i + 1) (take next' table') k ≡ side_run text count g before s i (take next table) k)
    turn_in Out q h lt n on e f next' left' right' table' ranks' b c d l r = absurd (q refl)
    turn_in In q h lt n on e f next' left' right' table' ranks' b c d l r = (
      subst (λ t. Inner text count g before first next' In (i + 1) on left' right' t ranks') (sym b)
          (subst (λ t. Inner text count g before first next' In (i + 1) on left' right' table t) (sym c)
          (subst (λ t. Inner text count g before first t In (i + 1) on left' right' table ranks) (sym d)
          (subst (λ t. Inner text count g before first next In (i + 1) on t right' table ranks) (sym l)
          (subst (λ t. Inner text count g before first next In (i + 1) on left t table ranks) (sym r)
          (again_in first next i at left right table ranks whole h lt n on e f))))),
      λ k. ap (λ t. side_run text count g before In (i + 1) (take next' t) k) b ∙ ap (λ m. side_run text count g before In (i + 1) (take m table) k) d ∙ sym (miss first next i at left right table ranks In h lt n on e k f),
    )
