-- The rows of each order are those of the triples.
use Rattle.std.proofs.Common.{refl, map, ◌∙◌}
use Rattle.std.proofs.lemmas.List.{length-map}
use Rattle.std.proofs.lemmas.Result.{IfOk-from_err}
use Rattle.triple_table.specs.declared.ids.Order.TheVariants.{Spo, Pos, Osp}
use Rattle.triple_table.specs.Stored.{triple_at}
use Rattle.triple_table.proofs.Built.{is_stored, built_members, built_size, rows_sorted, stored_data, stored_ranking}
use Rattle.triple_table.proofs.Distinct.{few_of}
use Rattle.triple_table.proofs.build.table_by_ids.Goals as goal

pub returns-in_err-spo-clause-members : goal.returns-in_err-spo-clause-members
returns-in_err-spo-clause-members c = IfOk-from_err _ _ c.from_residual.ensures.0

pub returns-in_err-spo-clause-data_set : goal.returns-in_err-spo-clause-data_set
returns-in_err-spo-clause-data_set c = IfOk-from_err _ _ c.from_residual.ensures.0

pub returns-in_err-spo-clause-ranking : goal.returns-in_err-spo-clause-ranking
returns-in_err-spo-clause-ranking c = IfOk-from_err _ _ c.from_residual.ensures.0

pub returns-in_err-spo-clause-terms : goal.returns-in_err-spo-clause-terms
returns-in_err-spo-clause-terms c = IfOk-from_err _ _ c.from_residual.ensures.0

pub returns-in_err-spo-clause-size : goal.returns-in_err-spo-clause-size
returns-in_err-spo-clause-size c = IfOk-from_err _ _ c.from_residual.ensures.0

pub returns-in_err-pos-clause-members : goal.returns-in_err-pos-clause-members
returns-in_err-pos-clause-members c = IfOk-from_err _ _ c.from_residual-in_err-pos.ensures.0

pub returns-in_err-pos-clause-data_set : goal.returns-in_err-pos-clause-data_set
returns-in_err-pos-clause-data_set c = IfOk-from_err _ _ c.from_residual-in_err-pos.ensures.0

pub returns-in_err-pos-clause-ranking : goal.returns-in_err-pos-clause-ranking
returns-in_err-pos-clause-ranking c = IfOk-from_err _ _ c.from_residual-in_err-pos.ensures.0

pub returns-in_err-pos-clause-terms : goal.returns-in_err-pos-clause-terms
returns-in_err-pos-clause-terms c = IfOk-from_err _ _ c.from_residual-in_err-pos.ensures.0

pub returns-in_err-pos-clause-size : goal.returns-in_err-pos-clause-size
returns-in_err-pos-clause-size c = IfOk-from_err _ _ c.from_residual-in_err-pos.ensures.0

pub returns-in_err-osp-clause-members : goal.returns-in_err-osp-clause-members
returns-in_err-osp-clause-members c = IfOk-from_err _ _ c.from_residual-in_err-osp.ensures.0

pub returns-in_err-osp-clause-data_set : goal.returns-in_err-osp-clause-data_set
returns-in_err-osp-clause-data_set c = IfOk-from_err _ _ c.from_residual-in_err-osp.ensures.0

pub returns-in_err-osp-clause-ranking : goal.returns-in_err-osp-clause-ranking
returns-in_err-osp-clause-ranking c = IfOk-from_err _ _ c.from_residual-in_err-osp.ensures.0

pub returns-in_err-osp-clause-terms : goal.returns-in_err-osp-clause-terms
returns-in_err-osp-clause-terms c = IfOk-from_err _ _ c.from_residual-in_err-osp.ensures.0

pub returns-in_err-osp-clause-size : goal.returns-in_err-osp-clause-size
returns-in_err-osp-clause-size c = IfOk-from_err _ _ c.from_residual-in_err-osp.ensures.0

pub invariant_of-result : goal.invariant_of-result
invariant_of-result c =
    is_stored (map (triple_at c.args.terms) c.args.ids.now) c.requires.data_set c.args.terms c.requires.ranking (few_of c.args.terms c.args.ids.now c.requires.few) c.requires.small c.args.ids.now c.requires.ids refl c.in_ok-spo.spo c.in_ok-pos.pos c.in_ok-osp.osp
    c.in_ok-spo.ensures.permutation (rows_sorted c.args.terms c.requires.small Spo c.args.ids.now c.in_ok-spo.spo c.requires.ids c.in_ok-spo.ensures.permutation c.in_ok-spo.ensures.sorted) c.in_ok-pos.ensures.permutation (rows_sorted c.args.terms c.requires.small Pos c.args.ids.now c.in_ok-pos.pos c.requires.ids c.in_ok-pos.ensures.permutation c.in_ok-pos.ensures.sorted) c.in_ok-osp.ensures.permutation (rows_sorted c.args.terms c.requires.small Osp c.args.ids.now c.in_ok-osp.osp c.requires.ids c.in_ok-osp.ensures.permutation c.in_ok-osp.ensures.sorted)

pub returns-clause-members : goal.returns-clause-members
returns-clause-members c =
    built_members (map (triple_at c.args.terms) c.args.ids.now) c.requires.data_set c.args.terms c.requires.ranking (few_of c.args.terms c.args.ids.now c.requires.few) c.requires.small c.args.ids.now c.requires.ids refl c.in_ok-spo.spo c.in_ok-pos.pos c.in_ok-osp.osp
    c.in_ok-spo.ensures.permutation (rows_sorted c.args.terms c.requires.small Spo c.args.ids.now c.in_ok-spo.spo c.requires.ids c.in_ok-spo.ensures.permutation c.in_ok-spo.ensures.sorted) c.in_ok-pos.ensures.permutation (rows_sorted c.args.terms c.requires.small Pos c.args.ids.now c.in_ok-pos.pos c.requires.ids c.in_ok-pos.ensures.permutation c.in_ok-pos.ensures.sorted) c.in_ok-osp.ensures.permutation (rows_sorted c.args.terms c.requires.small Osp c.args.ids.now c.in_ok-osp.osp c.requires.ids c.in_ok-osp.ensures.permutation c.in_ok-osp.ensures.sorted)

pub returns-clause-data_set : goal.returns-clause-data_set
returns-clause-data_set c =
    stored_data (map (triple_at c.args.terms) c.args.ids.now) c.requires.data_set c.args.terms c.requires.ranking (few_of c.args.terms c.args.ids.now c.requires.few) c.requires.small c.args.ids.now c.requires.ids refl c.in_ok-spo.spo c.in_ok-pos.pos c.in_ok-osp.osp
    c.in_ok-spo.ensures.permutation (rows_sorted c.args.terms c.requires.small Spo c.args.ids.now c.in_ok-spo.spo c.requires.ids c.in_ok-spo.ensures.permutation c.in_ok-spo.ensures.sorted) c.in_ok-pos.ensures.permutation (rows_sorted c.args.terms c.requires.small Pos c.args.ids.now c.in_ok-pos.pos c.requires.ids c.in_ok-pos.ensures.permutation c.in_ok-pos.ensures.sorted) c.in_ok-osp.ensures.permutation (rows_sorted c.args.terms c.requires.small Osp c.args.ids.now c.in_ok-osp.osp c.requires.ids c.in_ok-osp.ensures.permutation c.in_ok-osp.ensures.sorted)

pub returns-clause-ranking : goal.returns-clause-ranking
returns-clause-ranking c =
    stored_ranking (map (triple_at c.args.terms) c.args.ids.now) c.requires.data_set c.args.terms c.requires.ranking (few_of c.args.terms c.args.ids.now c.requires.few) c.requires.small c.args.ids.now c.requires.ids refl c.in_ok-spo.spo c.in_ok-pos.pos c.in_ok-osp.osp
    c.in_ok-spo.ensures.permutation (rows_sorted c.args.terms c.requires.small Spo c.args.ids.now c.in_ok-spo.spo c.requires.ids c.in_ok-spo.ensures.permutation c.in_ok-spo.ensures.sorted) c.in_ok-pos.ensures.permutation (rows_sorted c.args.terms c.requires.small Pos c.args.ids.now c.in_ok-pos.pos c.requires.ids c.in_ok-pos.ensures.permutation c.in_ok-pos.ensures.sorted) c.in_ok-osp.ensures.permutation (rows_sorted c.args.terms c.requires.small Osp c.args.ids.now c.in_ok-osp.osp c.requires.ids c.in_ok-osp.ensures.permutation c.in_ok-osp.ensures.sorted)

pub returns-clause-terms : goal.returns-clause-terms
returns-clause-terms c = refl

pub returns-clause-size : goal.returns-clause-size
returns-clause-size c =
    built_size (map (triple_at c.args.terms) c.args.ids.now) c.requires.data_set c.args.terms c.requires.ranking (few_of c.args.terms c.args.ids.now c.requires.few) c.requires.small c.args.ids.now c.requires.ids refl c.in_ok-spo.spo c.in_ok-pos.pos c.in_ok-osp.osp
    c.in_ok-spo.ensures.permutation (rows_sorted c.args.terms c.requires.small Spo c.args.ids.now c.in_ok-spo.spo c.requires.ids c.in_ok-spo.ensures.permutation c.in_ok-spo.ensures.sorted) c.in_ok-pos.ensures.permutation (rows_sorted c.args.terms c.requires.small Pos c.args.ids.now c.in_ok-pos.pos c.requires.ids c.in_ok-pos.ensures.permutation c.in_ok-pos.ensures.sorted) c.in_ok-osp.ensures.permutation (rows_sorted c.args.terms c.requires.small Osp c.args.ids.now c.in_ok-osp.osp c.requires.ids c.in_ok-osp.ensures.permutation c.in_ok-osp.ensures.sorted)
    ∙ length-map c.args.ids.now (triple_at c.args.terms)
