use Rattle.std.proofs.Common.{◌≡◌, ◌∙◌, Bor, List, None, Some, IfNone, arith, codes, map, subst, ap}
use Rattle.clap.specs.Words.{Text, found_of, rows_of}
use Rattle.prep_program.specs.Requests.{HasCaptures, NamesNothing, all_read, values_of}
use Rattle.prep_translate.specs.Words.{pair_of}
use Rattle.prep_program.proofs.Naming.{no_translate}
use Rattle.prep_program.proofs.command_line.translate.translate_request.Goals as goal

pub returns-in_default-2-clause-some : goal.returns-in_default-2-clause-some
returns-in_default-2-clause-some c =
    let rows = rows_of (found_of c.args.matches.now) in
    let none = subst (λ found. IfNone found ((names : List Text) → HasCaptures rows names → ⊥)) c.in_default-2.is c.in_ok-captures.ensures.none in
    c.usage.ensures.some (Some (codes "translate", rows)) (no_translate rows (λ names policy folder pairs captures is_policy is_folder few is_pairs. none names captures))

pub returns-then-len-gt-MAX_TRANSLATIONS-clause-some : goal.returns-then-len-gt-MAX_TRANSLATIONS-clause-some
returns-then-len-gt-MAX_TRANSLATIONS-clause-some c =
    let rows = rows_of (found_of c.args.matches.now) in
    c.usage-then-len-gt-MAX_TRANSLATIONS.ensures.some (Some (codes "translate", rows)) (no_translate rows (λ names policy folder pairs captures is_policy is_folder few is_pairs.
    absurd (omega (arith, few, c.if-len-gt-MAX_TRANSLATIONS.true, c.in_ok-words.ensures.count, c.len.ensures))))

pub returns-then-len-gt-MAX_TRANSLATIONS-clause-none : goal.returns-then-len-gt-MAX_TRANSLATIONS-clause-none
returns-then-len-gt-MAX_TRANSLATIONS-clause-none c =
    let rows = rows_of (found_of c.args.matches.now) in
    c.usage-then-len-gt-MAX_TRANSLATIONS.ensures.none (Some (codes "translate", rows)) (no_translate rows (λ names policy folder pairs captures is_policy is_folder few is_pairs.
    absurd (omega (arith, few, c.if-len-gt-MAX_TRANSLATIONS.true, c.in_ok-words.ensures.count, c.len.ensures))))

pub returns-in_default-3-clause-some : goal.returns-in_default-3-clause-some
returns-in_default-3-clause-some c =
    let rows = rows_of (found_of c.args.matches.now) in
    let none : None ≡ all_read pair_of (values_of (codes "external-ip") rows) = (rw c.in_default-3.is at c.in_ok-translations.ensures) ∙ ap (λ (words : List (Bor Text)). all_read pair_of (map (λ word. word.now) words)) c.as_slice.ensures.value ∙ ap (all_read pair_of) c.in_ok-words.ensures.same in
    c.usage-in_default-3.ensures.some (Some (codes "translate", rows)) (no_translate rows (λ names policy folder pairs captures is_policy is_folder few is_pairs.
    absurd (let bad : None ≡ Some pairs = none ∙ is_pairs in cc)))

pub returns-in_default-3-clause-none : goal.returns-in_default-3-clause-none
returns-in_default-3-clause-none c =
    let rows = rows_of (found_of c.args.matches.now) in
    let none : None ≡ all_read pair_of (values_of (codes "external-ip") rows) = (rw c.in_default-3.is at c.in_ok-translations.ensures) ∙ ap (λ (words : List (Bor Text)). all_read pair_of (map (λ word. word.now) words)) c.as_slice.ensures.value ∙ ap (all_read pair_of) c.in_ok-words.ensures.same in
    c.usage-in_default-3.ensures.none (Some (codes "translate", rows)) (no_translate rows (λ names policy folder pairs captures is_policy is_folder few is_pairs.
    absurd (let bad : None ≡ Some pairs = none ∙ is_pairs in cc)))
