use Rattle.std.proofs.Common.{◌≡◌, ◌∙◌, ℕ, List, codes, string_bytes, ap, get_or, arith}
use Rattle.std.proofs.lemmas.Result.{IfOk-weaker}
use Rattle.serde_json.specs.Data.{string}
use Rattle.serde_json.specs.Find.{get_member}
use Rattle.serde_json.proofs.Views.{get_member-put, get_member-put_other}
use Rattle.explain_json.specs.Answered.{IsAnswer, members_of, data_of, rule_of, word_of}
use Rattle.explain_json.proofs.answer.answer_text.Goals as goal

pub returns : goal.returns
returns c =
    let verdict = c.args.verdict.now in
    let told = rw c.word.ensures at c.in_ok-text-2.ensures in
    let apart : codes "rule" ≡ codes "verdict" → ⊥ = λ e. omega (arith, ap (λ (text : List ℕ). get_or text 0 0) e) in
    IfOk-weaker c.to_line.result _ _ (λ text order. record {
      value = data_of c.text-2.new.self;
      spelled = order;
      verdict_is = ap (get_member (codes "verdict")) told ∙ get_member-put (codes "verdict") (string (word_of verdict)) (members_of c.write_rule.new.answer);
      rule_is = ap (get_member (codes "rule")) told ∙ get_member-put_other (codes "rule") (codes "verdict") (string (word_of verdict)) (members_of c.write_rule.new.answer) apart
          ∙ ap (get_member (codes "rule")) c.in_ok-write_rule.ensures ∙ get_member-put (codes "rule") (rule_of verdict) (members_of c.text.new.self);
    }) c.to_line.ensures
