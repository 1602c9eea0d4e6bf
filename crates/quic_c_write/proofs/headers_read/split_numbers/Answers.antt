use Rattle.std.proofs.Common.{refl}
use Rattle.quic_c_write.proofs.HeaderNumbers.{cut_as, cut_at_id, cut_at_offset, cut_at_length, takes_as, takes_numbers}
use Rattle.quic_c_write.proofs.headers_read.split_numbers.Goals as goal

pub returns-in_err-id-clause-cut : goal.returns-in_err-id-clause-cut
returns-in_err-id-clause-cut c = λ e.
    cut_at_id c.args.ty c.args.bytes.now
    (cut_as _ _ c.args.bytes.now c.is_stream.ensures (c.in_err-id.ensures.cut refl))

pub returns-in_err-offset-clause-cut : goal.returns-in_err-offset-clause-cut
returns-in_err-offset-clause-cut c = λ e.
    let id = c.in_ok-id.id in
    let one = c.in_ok-id.behind_id.now in
    cut_at_offset c.args.ty id c.args.bytes.now one
    (takes_as _ _ id c.args.bytes.now one c.is_stream.ensures c.in_ok-id.ensures.found)
    (cut_as _ _ one c.has_offset.ensures (c.in_err-offset.ensures.cut refl))

pub returns-in_err-len-clause-cut : goal.returns-in_err-len-clause-cut
returns-in_err-len-clause-cut c = λ e.
    let id = c.in_ok-id.id in
    let offset = c.in_ok-offset.offset in
    let one = c.in_ok-id.behind_id.now in
    let two = c.in_ok-offset.behind_offset.now in
    cut_at_length c.args.ty id offset c.args.bytes.now one two
    (takes_as _ _ id c.args.bytes.now one c.is_stream.ensures c.in_ok-id.ensures.found)
    (takes_as _ _ offset one two c.has_offset.ensures c.in_ok-offset.ensures.found)
    (cut_as _ _ two c.has_length.ensures (c.in_err-len.ensures.cut refl))

pub returns-clause-found : goal.returns-clause-found
returns-clause-found c =
    let id = c.in_ok-id.id in
    let offset = c.in_ok-offset.offset in
    let len = c.in_ok-len.len in
    let one = c.in_ok-id.behind_id.now in
    let two = c.in_ok-offset.behind_offset.now in
    let rest = c.in_ok-len.rest.now in
    takes_numbers c.args.ty id offset len c.args.bytes.now one two rest
    (takes_as _ _ id c.args.bytes.now one c.is_stream.ensures c.in_ok-id.ensures.found)
    (takes_as _ _ offset one two c.has_offset.ensures c.in_ok-offset.ensures.found)
    (takes_as _ _ len two rest c.has_length.ensures c.in_ok-len.ensures.found)
