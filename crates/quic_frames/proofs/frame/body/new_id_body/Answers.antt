use Rattle.std.proofs.Common.{◌≤◌, length}
use Rattle.quic_frames.proofs.BodyParts.{new_id_body}
use Rattle.quic_frames.proofs.frame.body.new_id_body.Goals as goal

pub returns : goal.returns
returns c last =
    let x = c.args.new.now in
    let few : length x.id ≤ 20 = c.requires.3 in
    rw (
      new_id_body last x.sequence x.retire_prior_to x.id x.reset_token few,
      ← c.as_slice-id.ensures.value,
      ← c.as_slice-token.ensures.value,
    ) c.numbers_and_two.ensures
