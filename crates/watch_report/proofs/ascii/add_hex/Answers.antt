use Rattle.std.proofs.Common.{◌∷◌, [], true, false, Some, OnOk, string_bytes, ap, subst, ◌∙◌}
use Rattle.std.specs.Option.{option_map}
use Rattle.std.specs.Fmt.{padded_integral, format_spec, digits_output, AppendsText, ◌++?◌, shown_prefix, radix_prefix}
use Rattle.std.proofs.lemmas.Fmt.{hex_byte}
use Rattle.watch_report.proofs.ascii.add_hex.Goals as goal

pub returns : goal.returns
returns c =
    let n = c.args.byte in
    let given = c.in_radix.result in
    let prefix = radix_prefix given.base in
    let two = format_spec 32 0 4 2 18446744073709551615 in
    let shown = ap (λ s. option_map (padded_integral s false (shown_prefix s prefix)) (digits_output given)) c.laid_out.ensures
    ∙ ap (option_map (padded_integral two false (shown_prefix two prefix))) c.in_radix.ensures
    ∙ ap Some (hex_byte true n c.ranges.byte.fits) in
    subst (λ o. OnOk c.write.result (AppendsText (string_bytes c.args.text.now) (string_bytes c.write.new.self) (Some (92 ∷ 120 ∷ []) ++? o))) shown c.write.ensures.bytes
