use Rattle.std.proofs.Common.{◌≡◌, Ok, sym, ◌∙◌, Result, Err}
use Rattle.quic_params.specs.Options.{as_quinn}
use Rattle.quic_params.specs.Range.{plain}
use Rattle.quic_params.specs.Writing.{written}
use Rattle.quic_params.specs.declared.error.Error.{Error}
use Rattle.quic_params.specs.declared.record.TransportParameters.{TransportParameters}
use Rattle.quic_wire.proofs.Again.{list_again}
use Rattle.quic_wire.proofs.Written.{content_is}
use Rattle.quic_wire.proofs.calls.parameters_read_back.Goals as goal

pub unreachable-requires : goal.unreachable-requires
unreachable-requires c =
    let params = c.args.params.now in
    let content =
    content_is c.write.result c.in_ok-write.field-0 _ _ _ (written params) c.deref.ensures.value c.write.ensures.ok
    c.in_ok-write.was c.requires.empty in
    let is = c.parameters_again.ensures.own as_quinn c.args.side params c.type_bounds-2.ensures c.requires.range in
    let read =
    list_again c.args.side params _ c.read_parameters.result content is c.read_parameters.ensures.one in
    let never : (let r : Result TransportParameters Error = Err c.in-Err.field-0 in r) ≡ Ok (plain params) =
    sym c.in-Err.is ∙ read in
    cc

pub returns : goal.returns
returns c =
    let params = c.args.params.now in
    let content =
    content_is c.write.result c.in_ok-write.field-0 _ _ _ (written params) c.deref.ensures.value c.write.ensures.ok
    c.in_ok-write.was c.requires.empty in
    let is = c.parameters_again.ensures.own as_quinn c.args.side params c.type_bounds-2.ensures c.requires.range in
    let read =
    list_again c.args.side params _ c.read_parameters.result content is c.read_parameters.ensures.one in
    let same : (let r : Result TransportParameters Error = Ok c.in-Ok.read in r) ≡ Ok (plain params) =
    sym c.in-Ok.is ∙ read in
    cc
