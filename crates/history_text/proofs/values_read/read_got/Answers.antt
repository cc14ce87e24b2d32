use Rattle.history_text.proofs.Gots.{got_read, no_item_there, no_value_there}
use Rattle.history_text.proofs.values_read.read_got.Goals as goal

pub returns-in_default-read_item : goal.returns-in_default-read_item
returns-in_default-read_item c =
    no_item_there c.args.script.now c.args.field.now c.in-Some.name.now c.in-Some.text.now c.items-items.ensures.valid c.in-Some.ensures.text c.in-Some.ensures.first c.in_default-read_item.ensures

pub returns-in_default-2 : goal.returns-in_default-2
returns-in_default-2 c =
    let only = rw c.in_default-2.is at c.in_ok-value.ensures in
    let item = c.in-Some-read_item.ensures in
    no_value_there c.args.script.now c.args.field.now c.in-Some.name.now c.in-Some.text.now c.in-Some-read_item.item c.kind_of-kind.result c.kind_of-kind.ensures.valid c.in-Some.ensures.text c.in-Some.ensures.first item.0 item.1 c.kind_of-kind.ensures.kind only

pub returns : goal.returns
returns c =
    let read = rw c.in-Some-2.is at c.in_ok-value.ensures in
    let item = c.in-Some-read_item.ensures in
    got_read c.args.script.now c.args.field.now c.in-Some.name.now c.in-Some.text.now c.in-Some-read_item.item c.kind_of-kind.result c.in-Some-2.value c.in-Some.ensures.text item.0 c.kind_of-kind.ensures.kind read.0 read.1
