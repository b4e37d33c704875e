use Rattle.std.proofs.Common.{◌≡◌, ◌++◌, take, drop}
use Rattle.std.specs.List.{flat_map}
use Rattle.sw_declared.specs.Declarations.{aliases_in, funcs_from, types_in}
use Rattle.sw_declared.proofs.declaring.push_decls.Given as goal

abbrev pub invariant-loop-decl : goal.invariant-loop-decl
invariant-loop-decl l = record {
  types : l.names.types ≡ l.initial.names.types ++ flat_map types_in (take l.decl-index l.decls);
  aliases : l.names.aliases ≡ l.initial.names.aliases ++ flat_map aliases_in (take l.decl-index l.decls);
  funcs : l.names.funcs ++ funcs_from l.number (drop l.decl-index l.decls) ≡ l.initial.names.funcs ++ funcs_from 1 l.decls;
}
