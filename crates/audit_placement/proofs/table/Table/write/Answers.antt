use Rattle.std.proofs.Common.{◌≡◌, ◌<◌, ◌≤◌, length, sym, ap, arith}
use Rattle.std.specs.Prelude.{is_some}
use Rattle.audit_placement.proofs.Tables.{same_length, place_is, place_set, place_past, place_past_values}
use Rattle.audit_placement.proofs.table.Table.write.Goals.{else-iface-len-via-then-iface-len+else-index-len, else-iface-len-via-else-iface-len}
use Rattle.audit_placement.proofs.table.Table.write.Goals as goal

pub returns-then-index-len-clause-set : goal.returns-then-index-len-clause-set
returns-then-index-len-clause-set g c =
    let values = c.index_mut.result.now in
    let by_interface = c.args.self.now.by_interface.items in
    let inside : c.args.sight.iface < length by_interface = omega (arith, c.len.ensures, c.if-iface-len.true) in
    let same : length values.items ≡ length c.index.result.now.items = same_length by_interface c.args.sight.iface values c.index.result.now inside c.index_mut.ensures.value c.index.ensures in
    let within : c.args.sight.index < length values.items = omega (arith, same, c.len-then-iface-len.ensures, c.if-index-len.true) in
    λ other. place_set by_interface c.args.sight.iface c.args.sight.index values c.args.value inside c.index_mut.ensures.value within other.iface other.index

pub returns-then-index-len-clause-there : goal.returns-then-index-len-clause-there
returns-then-index-len-clause-there g c =
    let by_interface = c.args.self.now.by_interface.items in
    let values = c.index.result.now in
    let inside : c.args.sight.iface < length by_interface = omega (arith, c.len.ensures, c.if-iface-len.true) in
    let within : c.args.sight.index < length values.items = omega (arith, c.len-then-iface-len.ensures, c.if-index-len.true) in
    sym (ap is_some (place_is by_interface c.args.sight.iface c.args.sight.index values c.args.value inside c.index.ensures within))

pub returns-clause-there : goal.returns-clause-there
returns-clause-there g c =
    let by_interface = c.args.self.now.by_interface.items in
    elim c.else-iface-len.branch [
      | else-iface-len-via-then-iface-len+else-index-len w ↦
          let values = w.index.result.now in
          let inside : c.args.sight.iface < length by_interface = omega (arith, c.len.ensures, w.if-iface-len.true) in
          let past : length values.items ≤ c.args.sight.index = omega (arith, w.len-then-iface-len.ensures, w.if-index-len.false) in
          sym (ap is_some (place_past_values by_interface c.args.sight.iface c.args.sight.index values inside w.index.ensures past))
      | else-iface-len-via-else-iface-len w ↦
          let past : length by_interface ≤ c.args.sight.iface = omega (arith, c.len.ensures, w.if-iface-len.false) in
          sym (ap is_some (place_past by_interface c.args.sight.iface c.args.sight.index past))
    ]
