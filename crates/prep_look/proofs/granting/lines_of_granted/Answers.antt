use Rattle.std.proofs.Common.{◌≡◌, ◌-◌, ◌+◌, ◌++◌, ◌∙◌, ℕ, suc, List, length, drop, sym, ap, arith, append_assoc, string_bytes}
use Rattle.std.specs.List.{prefix_len}
use Rattle.prep_look.specs.declared.granted_address.GrantedAddress.{GrantedAddress}
use Rattle.prep_look.specs.PolicyLines.{granted_line, granted_lines, is_of_ip}
use Rattle.prep_look.proofs.ByAddress.{first_line}
use Rattle.prep_look.proofs.granting.lines_of_granted.Goals as goal

pub loop-preserved : goal.loop-preserved
loop-preserved c =
    let policy = c.args.policy.now in
    let before : List ℕ = string_bytes c.loop.text in
    let rest : List GrantedAddress = c.loop.rest.now in
    let left : ℕ = length c.args.granted.now - (c.loop.counter + 1) in
    let line : List ℕ = granted_line policy c.in-Some.first.now c.split_ip.result.0.now in
    let after : List ℕ = granted_lines left policy c.split_ip.result.1.now in
    let written : string_bytes c.push_str.new.self ≡ before ++ line = c.in_ok-push_str.ensures.bytes ∙ ap (λ (l : List ℕ). before ++ l) (c.as_str.ensures.value ∙ c.in_ok-line_of.ensures) in
    let one : length c.args.granted.now - c.loop.counter ≡ suc left = omega (arith, c.loop-test.true) in
    let chain : granted_lines (length c.args.granted.now - c.loop.counter) policy rest ≡ line ++ after =
    first_line policy (length c.args.granted.now - c.loop.counter) left rest c.in-Some.field-0-1.now c.in-Some.first.now one c.in-Some.ensures.cases.0
    ∙ ap (λ (l : List GrantedAddress). granted_line policy c.in-Some.first.now l ++ granted_lines left policy (drop (prefix_len (is_of_ip c.in-Some.first.now.relayed.ip) rest) rest)) (sym c.split_ip.ensures.front)
    ∙ ap (λ (l : List GrantedAddress). line ++ granted_lines left policy l) (sym c.split_ip.ensures.others) in
    ap (λ (l : List ℕ). l ++ after) written ∙ append_assoc before line after ∙ ap (λ (l : List ℕ). before ++ l) (sym chain) ∙ c.loop.invariant
