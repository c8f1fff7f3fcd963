use Rattle.std.proofs.Common.{◌≡◌, ℕ, ◌+◌, ◌-◌, ◌/◌, ◌%◌, ◌^◌, ◌<◌, ◌≤◌, List, [], ◌∷◌, ◌++◌, length, drop, set, decimal, sym, refl, ap, ◌∙◌, append_assoc, arith}
use Rattle.std.proofs.lemmas.Fmt.{decimal_digit, decimal_step, decimal_nonempty, length-decimal-le}
use Rattle.std.proofs.lemmas.Grind.{drop-set_at}
use Rattle.std.proofs.lemmas.List.{take_all, drop-set, length-set, length-drop, length_push, append-nil}
use Rattle.writing.proofs.Pages.{puts_same}
use Rattle.writing.proofs.page.Page.put_number.Goals as goal

-- a number has one digit more than what is left without its last
longer : (n : ℕ) → 10 ≤ n → n < 2 ^ 64 → length (decimal n) ≡ length (decimal (n / 10)) + 1
longer n more fits = ap length (decimal_step n more fits) ∙ length_push (decimal (n / 10)) (48 + n % 10)

pub loop-rest-init : goal.loop-rest-init
loop-rest-init c = (omega arith, refl, length-decimal-le 20 c.args.n (omega arith) (omega (arith, c.ranges.n.fits)) (omega (arith, c.ranges.n.fits)), append-nil (decimal c.args.n))

pub overflow_sub-first-in-loop-rest : goal.overflow_sub-first-in-loop-rest
overflow_sub-first-in-loop-rest c =
    let l = c.loop-rest in
    omega (arith, l.invariant.2, longer l.rest c.loop-rest-test.true l.auto.rest-fits.fits, decimal_nonempty (l.rest / 10) (omega (arith, l.auto.rest-fits.fits)))

pub loop-rest-preserved : goal.loop-rest-preserved
loop-rest-preserved c =
    let l = c.loop-rest in
    let fits = l.auto.rest-fits.fits in
    let long = longer l.rest c.loop-rest-test.true fits in
    let first : 1 ≤ l.first = overflow_sub-first-in-loop-rest c in
    let here : drop (l.first - 1 + 1) (set l.digits l.first (48 + l.rest % 10)) ≡ (48 + l.rest % 10) ∷ drop (l.first + 1) l.digits =
    drop-set_at l.digits l.first (l.first - 1 + 1) (48 + l.rest % 10) (omega (arith, first)) (omega (arith, l.invariant.0, l.invariant.1)) in (
      omega (arith, l.invariant.0),
      length-set l.digits l.first (48 + l.rest % 10) ∙ l.invariant.1,
      omega (arith, long, l.invariant.2, first),
      ap (λ ds. decimal (l.rest / 10) ++ ds) here ∙ sym (append_assoc (decimal (l.rest / 10)) ((48 + l.rest % 10) ∷ []) (drop (l.first + 1) l.digits))
          ∙ ap (λ ds. ds ++ drop (l.first + 1) l.digits) (sym (decimal_step l.rest c.loop-rest-test.true (omega (arith, fits)))) ∙ l.invariant.3,
    )

pub returns : goal.returns
returns c =
    let l = c.loop-rest in
    let whole : List ℕ = set l.digits l.first (48 + l.rest) in
    let all : length (drop l.first whole) ≤ 20 - l.first = omega (arith, length-drop l.first whole, length-set l.digits l.first (48 + l.rest), l.invariant.1) in
    puts_same
    (take_all (20 - l.first) (drop l.first whole) all ∙ drop-set l.digits l.first (48 + l.rest) (omega (arith, l.invariant.0, l.invariant.1))
    ∙ ap (λ ds. ds ++ drop (l.first + 1) l.digits) (sym (decimal_digit l.rest c.loop-rest-test.false)) ∙ l.invariant.3)
    c.put_bytes.ensures
