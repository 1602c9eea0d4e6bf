use Rattle.std.proofs.Common.{rules}
use Rattle.quic_header_encode.proofs.Sizes.{has_size}
use Rattle.quic_header_encode.proofs.store.HeaderRef.encoded_len.Goals as goal

pub returns-in-Short : goal.returns-in-Short
returns-in-Short g c = has_size g.I.StoredId.id c.args.self.now _ (search rules)

pub returns-in-Initial : goal.returns-in-Initial
returns-in-Initial g c = has_size g.I.StoredId.id c.args.self.now _ (search rules)

pub returns-in-Retry : goal.returns-in-Retry
returns-in-Retry g c = has_size g.I.StoredId.id c.args.self.now _ (search rules)

pub returns-in-VersionNegotiate : goal.returns-in-VersionNegotiate
returns-in-VersionNegotiate g c = has_size g.I.StoredId.id c.args.self.now _ (search rules)

pub returns-in_default : goal.returns-in_default
returns-in_default g c = has_size g.I.StoredId.id c.args.self.now _ (search rules)
