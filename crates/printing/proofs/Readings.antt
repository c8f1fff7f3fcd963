-- What was read, and what is printed of it.
use Rattle.std.proofs.Common.{◌≡◌, ℕ, ◌-◌, ◌*◌, ◌≤◌, false, ◌||◌, ltb, List, length, take, drop, Some, Ok, Err, Option, Result, sym, refl, ap, ◌∙◌, subst, arith}
use Rattle.std.proofs.lemmas.List.{length-map, take_at, length-take}
use Rattle.std.proofs.lemmas.Bool.{le-ltb}
use Rattle.circuits.specs.Circuits.{Meaning, width}
use Rattle.circuits.specs.declared.answer.Refusal.{Refusal}
use Rattle.circuits.specs.declared.making.Entry.{Entry}
use Rattle.tokens.specs.declared.fault.Fault.{Fault}
use Rattle.tokens.specs.declared.header.Header.{Header}
use Rattle.reading.specs.Accepted.{Accepted}
use Rattle.reading.specs.Texts.{Outcome, untouched, cleared, filled, answer, circuit_of, table_after, ranks_after}
use Rattle.plannings.specs.Running.{WritesFront}
use Rattle.printing.specs.Lines.{fault_text}
use Rattle.printing.specs.Printed.{wires_read, short_for, Printed, LeavesRanks}
use Rattle.printing.proofs.Tables.{Wrote}

some_width : (a b : Meaning) → ◌≡◌ {A = Option Meaning} (Some a) (Some b) → width a ≡ width b
some_width a b e = let same : a ≡ b = cc in ap width same

filled_of : (o : Outcome) (h : Header) (text : List ℕ) (old new : List Entry) (rs : List ℕ) → Ok h ≡ answer o → new ≡ table_after o old
    → Accepted text (circuit_of o) h (take h.wires new) rs → o ≡ filled h (take h.wires new)
filled_of (untouched f) h text old new rs e n a = let z : ◌≡◌ {A = ℕ} 0 1 = cc in absurd (omega arith)
filled_of (cleared w f) h text old new rs e n a = let z : ◌≡◌ {A = ℕ} 0 1 = cc in absurd (omega arith)
filled_of (filled k es) h text old new rs e n a =
    let same : k ≡ h = cc in
    let long : length es ≡ h.wires =
    omega (arith, some_width _ _ a.meant, length-map es (λ e. e.making), length-map (take h.wires new) (λ e. e.making), a.wires) in
    ap (λ k. filled k es) same ∙ ap (filled h) (sym (ap (take h.wires) n ∙ take_at es (drop (length es) old) h.wires long))

-- a text that was read has filled the front of the table, and there are as many ranks
pub record Read (o : Outcome) (h : Header) (es : List Entry) (ranks : List ℕ) : Type 0 where
  pub is : o ≡ filled h es
  pub long : length es ≤ length ranks

pub read_of : (o : Outcome) (h : Header) (text : List ℕ) (old new : List Entry) (ranks : List ℕ) → Ok h ≡ answer o → new ≡ table_after o old
    → Accepted text (circuit_of o) h (take h.wires new) (take h.wires ranks) → Read o h (take (h.wires - 0) new) ranks
read_of o h text old new ranks e n a =
    let whole : h.wires - 0 ≡ h.wires = omega arith in
    let front : take (h.wires - 0) new ≡ take h.wires new = ap (λ k. take k new) whole in
    record {
      is = filled_of o h text old new (take h.wires ranks) e n a ∙ ap (filled h) (sym front);
      long = omega (arith, a.kept.many, ap length front, length-take h.wires ranks);
    }

pub read_past : (o : Outcome) (h : Header) (xs : List Entry) → o ≡ filled h xs → (m m' : List ℕ) → drop (24 * length xs) m' ≡ drop (24 * length xs) m
    → drop (24 * wires_read o) m' ≡ drop (24 * wires_read o) m
read_past o h xs is m m' p = subst (λ n. drop (24 * n) m' ≡ drop (24 * n) m) (sym (ap wires_read is)) p

-- the plan is printed
pub printed_plan : (o : Outcome) (h : Header) (xs : List Entry) → o ≡ filled h xs → (memory : ℕ) (before read after out : List ℕ) → read ≡ ranks_after o before
    → (r : Result ℕ Refusal) (out' : List ℕ) → Wrote xs (ltb memory (24 * length xs)) read after out r out'
    → Printed o memory out r out' × LeavesRanks o (short_for o memory) before after
printed_plan (untouched f) h xs is memory before read after out n r out' w = let z : ◌≡◌ {A = ℕ} 0 1 = cc in absurd (omega arith)
printed_plan (cleared k f) h xs is memory before read after out n r out' w = let z : ◌≡◌ {A = ℕ} 0 1 = cc in absurd (omega arith)
printed_plan (filled k es) h xs is memory before read after out n r out' w =
    let same : xs ≡ es = cc in
    let w' : Wrote es (ltb memory (24 * length es)) (ranks_after (filled k es) before) after out r out' =
    subst (λ rs. Wrote es (ltb memory (24 * length es)) rs after out r out') n (subst (λ x. Wrote x (ltb memory (24 * length x)) read after out r out') same w) in
    ((_, (w'.plan, w'.earliest, refl), w'.writes), (w'.plan, w'.earliest, w'.ranks))

-- the fault is printed
pub printed_fault : (o : Outcome) (f : Fault) → Err f ≡ answer o → (memory : ℕ) (before after out : List ℕ) → after ≡ ranks_after o before → (r : Result ℕ Refusal) (out' : List ℕ)
    → WritesFront (ltb (length out) (length (fault_text f))) (fault_text f) out r out'
    → Printed o memory out r out' × LeavesRanks o (short_for o memory) before after
printed_fault o f e memory before after out n r out' w = go o e n
  where
    none : ltb memory (24 * 0) ≡ false
    none = le-ltb memory 0 (omega arith)

    written : (g : Fault) → f ≡ g → WritesFront (ltb memory (24 * 0) || ltb (length out) (length (fault_text g))) (fault_text g) out r out'
    written g same =
        subst (λ b. WritesFront (b || ltb (length out) (length (fault_text g))) (fault_text g) out r out') (sym none)
        (subst (λ g. WritesFront (ltb (length out) (length (fault_text g))) (fault_text g) out r out') same w)

    go : (o : Outcome) → Err f ≡ answer o → after ≡ ranks_after o before → Printed o memory out r out' × LeavesRanks o (short_for o memory) before after
    go (untouched g) e n = let same : f ≡ g = cc in ((fault_text g, refl, written g same), n)
    go (cleared k g) e n = let same : f ≡ g = cc in ((fault_text g, refl, written g same), n)
    go (filled h es) e n = let z : ◌≡◌ {A = ℕ} 0 1 = cc in absurd (omega arith)
