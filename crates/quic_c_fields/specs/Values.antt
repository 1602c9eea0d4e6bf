-- What the call for values of parameters reads and returns.
use Rattle.std.specs.Prelude.{ℕ, ◌/◌, ◌%◌, Bool, nat_eq, Option}
use Rattle.quic_fields.specs.declared.field.Reach.{Reach}
use Rattle.quic_params.specs.declared.error.Error.{Error}
use Rattle.quic_params.specs.declared.error.Error.TheVariants.{IllegalValue, Malformed}
use Rattle.quic_param_fields.specs.declared.field.Reason.{Reason}
use Rattle.quic_param_fields.specs.declared.field.Walked.{Walked}
use Rattle.quic_results.specs.declared.results.Failure.{Failure}
use Rattle.quic_results.specs.declared.results.Failure.TheVariants as failure

-- an integer may be in any width: the bit 0x080
abbrev pub any_width : ℕ → Bool
any_width flags = nat_eq (flags / 0x080 % 2) 1

-- what is returned for an error
abbrev pub failure_of : Error → Failure
failure_of Malformed = failure.ParametersMalformed
failure_of IllegalValue = failure.ParametersIllegal

-- what was read, with this fault
abbrev pub walked_as : Reach → Option Reason → Walked
walked_as out fault =
    record { count = out.count; end = out.end; fault = fault; inside = out.inside; numbers = out.numbers }
