-- `decode_kind` meets its contract: each kind by its own function.
-- Assumes nothing.
use mathlib.Core.Path.{◌≡◌, ap, ◌∙◌}
use lib.ListN.{get_or}
use Rattle.cmd_fields.specs.Commands.{kind_of_command}
use Rattle.cmd_fields.specs.declared.Kind.TheVariants.{Lock}
use Rattle.cmd_decode.specs.Decoding.{decode_kind, reading_of}
use Rattle.cmd_decode.proofs.Laws.{is-kind, locks, fixed_reads, rest-lock}
use Rattle.cmd_decode.proofs.decode_kind.Goals as goal

pub returns-in-Read : goal.returns-in-Read
unfolding decode_kind
returns-in-Read c =
    let o = c in
    rw (is-kind o.command_in.ensures o.kind_of.ensures c.in-Read.is) c.decode_read.ensures

pub returns-in-Write : goal.returns-in-Write
unfolding decode_kind
returns-in-Write c =
    let o = c in
    rw (is-kind o.command_in.ensures o.kind_of.ensures c.in-Write.is) c.decode_write.ensures

pub returns-in-WriteMasked : goal.returns-in-WriteMasked
unfolding decode_kind
returns-in-WriteMasked c =
    let o = c in
    rw (is-kind o.command_in.ensures o.kind_of.ensures c.in-WriteMasked.is) c.decode_masked.ensures

pub returns-in-Options : goal.returns-in-Options
unfolding decode_kind
returns-in-Options c =
    let o = c in
    let d = o.args.datagram.now in
    rw (is-kind o.command_in.ensures o.kind_of.ensures c.in-Options.is) (ap (λ r. reading_of r d) c.of_length.ensures ∙ fixed_reads 2 d _)

pub returns-in-Information : goal.returns-in-Information
unfolding decode_kind
returns-in-Information c =
    let o = c in
    let d = o.args.datagram.now in
    rw (is-kind o.command_in.ensures o.kind_of.ensures c.in-Information.is) (ap (λ r. reading_of r d) c.decode_information.ensures ∙ fixed_reads 3 d _)

pub returns-in-Lock : goal.returns-in-Lock
unfolding decode_kind
returns-in-Lock c =
    let o = c in
    let d = o.args.datagram.now in
    let e : kind_of_command (get_or d 1 0) ≡ Lock = is-kind o.command_in.ensures o.kind_of.ensures c.in-Lock.is in
    rw (e, ← rest-lock d (rw e at (locks (get_or d 1 0)))) (ap (λ r. reading_of r d) c.of_length-in-Lock.ensures ∙ fixed_reads 8 d _)

pub returns-in-UpdateComplete : goal.returns-in-UpdateComplete
unfolding decode_kind
returns-in-UpdateComplete c =
    let o = c in
    let d = o.args.datagram.now in
    rw (is-kind o.command_in.ensures o.kind_of.ensures c.in-UpdateComplete.is) (ap (λ r. reading_of r d) c.of_length-in-UpdateComplete.ensures ∙ fixed_reads 2 d _)

pub returns-in-Unknown : goal.returns-in-Unknown
unfolding decode_kind
returns-in-Unknown c =
    let o = c in
    rw (is-kind o.command_in.ensures o.kind_of.ensures c.in-Unknown.is)
