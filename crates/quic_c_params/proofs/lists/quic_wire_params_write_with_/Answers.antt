use Rattle.std.proofs.Common.{◌≡◌, ℕ, List, ◌+◌, ◌++◌, length, drop, ap, subst, sym, ◌∙◌}
use Rattle.std.specs.Prelude.{Ok}
use Rattle.quic_params.specs.Further.{IsOrderOf, asked, listed}
use Rattle.quic_params.specs.Meaning.{IsReadAnswer}
use Rattle.quic_params.specs.Options.{as_quinn}
use Rattle.quic_params.specs.Table.{parameter_count}
use Rattle.quic_params.specs.declared.record.TransportParameters.{TransportParameters}
use Rattle.quic_c_params.proofs.DescribedParams.{plain_is}
use Rattle.quic_c_params.proofs.lists.quic_wire_params_write_with_.Goals as goal

pub returns-clause-wrote : goal.returns-clause-wrote
returns-clause-wrote c = λ _.
    let p : TransportParameters = c.in-Some-described.params in
    let s = c.in-Some-described.ensures.some in
    let r = c.in-Some-count_entries.ensures.some in
    let order = subst (λ (n : ℕ). IsOrderOf n (asked n c.args.order.now)) r.2 r.3 in
    let list : List ℕ = listed p r.0 c.args.order.now in
    let len : c.list_len-len.result ≡ length list = c.list_len-len.ensures r.0 r.1.encoded in
    let read =
    c.further.ensures as_quinn c.in-Some.reader p r.0 (asked (parameter_count + length r.0) c.args.order.now)
    c.type_bounds-2.ensures s.1 r.1.others order in
    record {
      params = p;
      entries = r.0;
      can = record {
        record_is = record { reader = c.in-Some.reader; is_side = c.in-Some.ensures; described = s.0; in_range = s.1; read_back = s.2 };
        further_are = r.1;
        order_is = order;
      };
      wrote = record {
        count_is = len;
        front = c.store_list.ensures r.0 r.1.encoded
            ∙ ap (λ (n : ℕ). list ++ drop n c.args.dest.now) (sym len);
      };
      read_back = subst (λ (q : TransportParameters). IsReadAnswer as_quinn c.in-Some.reader list (Ok q))
          (plain_is p s.0.no_grease s.0.no_order) read;
    }
