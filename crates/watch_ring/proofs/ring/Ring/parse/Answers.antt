use Rattle.std.proofs.Common.{◌++◌, ℕ, List, Some, sym, ap, ◌∙◌}
use Rattle.watch_ring.specs.Names.{field}
use Rattle.watch_ring.proofs.Fronts.{not_front, front_gone, has_front, same_bytes, differ}
use Rattle.watch_ring.proofs.SameFile.{same_file}
use Rattle.watch_ring.proofs.ring.Ring.parse.Goals as goal

pub returns-in_err-rest-clause-only : goal.returns-in_err-rest-clause-only
returns-in_err-rest-clause-only c file e =
    let tail : List ℕ = field 5 file.number ++ (field 14 file.opened ++ c.args.self.now.extension.now) in
    let name = c.as_bytes.ensures.value ∙ e ∙ ap (λ (l : List ℕ). l ++ tail) (sym c.as_bytes-2.ensures.value) in
    absurd (not_front c.as_bytes.result.now c.as_bytes-2.result.now tail c.in_err-rest.ensures.cases name)

pub returns-then-ne-clause-only : goal.returns-then-ne-clause-only
returns-then-ne-clause-only c file e =
    let second : List ℕ = field 14 file.opened ++ c.args.self.now.extension.now in
    let tail : List ℕ = field 5 file.number ++ second in
    let name = c.as_bytes.ensures.value ∙ e ∙ ap (λ (l : List ℕ). l ++ tail) (sym c.as_bytes-2.ensures.value) in
    let rest = front_gone c.as_bytes.result.now c.as_bytes-2.result.now c.in_ok-rest.rest.now tail c.in_ok-rest.ensures.cases.1 name in
    let number = c.in_ok-number.ensures.only file.number second file.counted rest in
    let opened = c.in_ok-opened.ensures.only file.opened c.args.self.now.extension.now file.dated number.1 in
    absurd (differ c.in_ok-opened.rest.now c.as_bytes-3.result.now (sym c.ne.ensures ∙ c.if-ne.true) (opened.1 ∙ sym c.as_bytes-3.ensures.value))

pub returns-clause-found : goal.returns-clause-found
returns-clause-found c =
    let prefix : List ℕ = c.args.self.now.prefix.now in
    let number : List ℕ = field 5 c.in_ok-number.number in
    let opened : List ℕ = field 14 c.in_ok-opened.opened in
    let front = has_front c.as_bytes.result.now c.as_bytes-2.result.now c.in_ok-rest.rest.now c.in_ok-rest.ensures.cases.0 c.in_ok-rest.ensures.cases.1 in
    let last = same_bytes c.in_ok-opened.rest.now c.as_bytes-3.result.now (sym c.ne.ensures ∙ c.if-ne.false) ∙ c.as_bytes-3.ensures.value in
    sym c.as_bytes.ensures.value ∙ front ∙ ap (λ (l : List ℕ). l ++ c.in_ok-rest.rest.now) c.as_bytes-2.ensures.value
    ∙ ap (λ (l : List ℕ). prefix ++ l) (c.in_ok-number.ensures.found.1 ∙ ap (λ (l : List ℕ). number ++ l) (c.in_ok-opened.ensures.found.1 ∙ ap (λ (l : List ℕ). opened ++ l) last))

pub returns-clause-only : goal.returns-clause-only
returns-clause-only c file e =
    let second : List ℕ = field 14 file.opened ++ c.args.self.now.extension.now in
    let tail : List ℕ = field 5 file.number ++ second in
    let name = c.as_bytes.ensures.value ∙ e ∙ ap (λ (l : List ℕ). l ++ tail) (sym c.as_bytes-2.ensures.value) in
    let rest = front_gone c.as_bytes.result.now c.as_bytes-2.result.now c.in_ok-rest.rest.now tail c.in_ok-rest.ensures.cases.1 name in
    let number = c.in_ok-number.ensures.only file.number second file.counted rest in
    let opened = c.in_ok-opened.ensures.only file.opened c.args.self.now.extension.now file.dated number.1 in
    ap Some (same_file _ file opened.0 number.0)
