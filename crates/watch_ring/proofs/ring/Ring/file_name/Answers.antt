use Rattle.std.proofs.Common.{◌≡◌, ◌++◌, ◌∷◌, ℕ, List, Result, Ok, Err, String, Global, string_bytes, rules, ap, ◌∙◌}
use Rattle.std.specs.Result.{IfOk}
use Rattle.std.specs.Fmt.{styled_decimal}
use Rattle.watch_ring.specs.Names.{digits, field}
use Rattle.watch_ring.proofs.Padding.{number_text, second_text}
use Rattle.watch_ring.proofs.ring.Ring.file_name.Goals as goal

then : {T E : Type 0} (r : Result T E) (P Q : T → Type 0) → ((x : T) → P x → Q x) → IfOk r P → IfOk r Q
then (Ok x) P Q f h = f x h
then (Err e) P Q f h = tt

pub returns : goal.returns
returns c =
    let text : IfOk c.format.result (λ (s : String Global). string_bytes s ≡ c.args.self.now.prefix.now ++ (95 ∷ (styled_decimal c.laid_out.result c.args.file.now.number ++ (95 ∷ (styled_decimal c.laid_out-2.result c.args.file.now.opened ++ c.args.self.now.extension.now))))) = search rules in
    let prefix : List ℕ = c.args.self.now.prefix.now in
    let extension : List ℕ = c.args.self.now.extension.now in
    let number : styled_decimal c.laid_out.result c.args.file.now.number ≡ digits 5 c.args.file.now.number = ap (λ s. styled_decimal s c.args.file.now.number) c.laid_out.ensures ∙ number_text c.args.file.now.number c.args.file.now.counted in
    let opened : styled_decimal c.laid_out-2.result c.args.file.now.opened ≡ digits 14 c.args.file.now.opened = ap (λ s. styled_decimal s c.args.file.now.opened) c.laid_out-2.ensures ∙ second_text c.args.file.now.opened c.args.file.now.dated in
    then c.format.result _ _ (λ s h. h ∙ ap (λ (l : List ℕ). prefix ++ (95 ∷ (l ++ (95 ∷ (styled_decimal c.laid_out-2.result c.args.file.now.opened ++ extension))))) number
    ∙ ap (λ (l : List ℕ). prefix ++ (field 5 c.args.file.now.number ++ (95 ∷ (l ++ extension)))) opened) text
