use Rattle.quic_params.specs.Options.{as_rfc}
use Rattle.quic_params.specs.Range.{plain}
use Rattle.quic_params.specs.Writing.{written}
use Rattle.quic_wire.proofs.AllowedLists.{error_read, list_allowed, list_error, list_read}
use Rattle.quic_wire.proofs.rfc.rfc_lists.Goals as goal

pub returns-clause-one : goal.returns-clause-one
returns-clause-one c = λ side list fits. c.every_list.ensures as_rfc side list fits

pub returns-clause-allowed : goal.returns-clause-allowed
returns-clause-allowed c = λ side list params. (list_allowed side list params, list_read side list params)

pub returns-clause-written : goal.returns-clause-written
returns-clause-written c = λ side params typed range.
    list_allowed side (written params) (plain params) (c.parameters_again.ensures.own as_rfc side params typed range)

pub returns-clause-first : goal.returns-clause-first
returns-clause-first c = λ side list error. (list_error side list error, error_read side list error)
