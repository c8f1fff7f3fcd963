-- A text that is written is at the front.
use Rattle.std.proofs.Common.{◌≡◌, ℕ, ltb, List, length, Result, sym, ap, ◌∙◌, subst, ⊎_elim}
use Rattle.std.proofs.lemmas.Bool.{cond-true, cond-false, cases_lt, lt-ltb, le-ltb, le-leb, lt-leb}
use Rattle.circuits.specs.declared.answer.Refusal.{Refusal}
use Rattle.runs.specs.Calls.{refused_by}
use Rattle.plannings.specs.Running.{WritesFront}
use Rattle.writing.specs.Writes.{answered, left}

pub front : (text room : List ℕ) (r : Result ℕ Refusal) (room' : List ℕ) → r ≡ answered text (length room) → room' ≡ left text room
    → WritesFront (ltb (length room) (length text)) text room r room'
front text room r room' a b =
    ⊎_elim
    (λ lt.
    let short = lt-leb (length text) (length room) lt in
    subst (λ t. WritesFront t text room r room') (sym (lt-ltb (length room) (length text) lt)) (ap refused_by (a ∙ cond-false _ _ _ short), b ∙ cond-false _ _ _ short))
    (λ le.
    let fits = le-leb (length text) (length room) le in
    subst (λ t. WritesFront t text room r room') (sym (le-ltb (length room) (length text) le)) (a ∙ cond-true _ _ _ fits, b ∙ cond-true _ _ _ fits))
    (cases_lt (length room) (length text))
