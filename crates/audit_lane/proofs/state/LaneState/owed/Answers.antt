use Rattle.std.proofs.Common.{rules, ◌≡◌, ◌∙◌, refl, sym, min}
use Rattle.std.specs.BTreeMap.{keys}
use Rattle.std.specs.Cmp.{nat_cmp_total}
use Rattle.std.proofs.lemmas.Map.Lookups.{exact_unsigned}
use Rattle.std.proofs.lemmas.Map.Views.{btree_map_contains_key_iff}
use Rattle.std.proofs.lemmas.Map.Entries.{length-keys_of}
use Rattle.audit_lane.proofs.state.LaneState.owed.Goals as goal

pub returns : goal.returns
returns c =
    let owed = c.args.self.now.owed in
    let told : c.unwrap_or.result ≡ min c.len.result 4294967295 = search rules in (
      c.len.result,
      record {
        places = keys owed;
        rising = c.len.ensures.ordered;
        all = λ place. btree_map_contains_key_iff nat_cmp_total exact_unsigned owed place;
        many = length-keys_of owed.entries ∙ sym c.len.ensures.len;
      },
      told,
    )
