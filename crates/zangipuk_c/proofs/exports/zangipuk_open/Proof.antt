-- A pool is made, and written into the room.
use Rattle.std.proofs.Common.{List, [], ◌∷◌, ◌++◌, refl, w32, w64}
use Rattle.std.proofs.raw_atomic.Walks.{proved}
use base.Fraction.{full_share}
use base.Logic.{id⊢}
use base.Fml.{Fml, ftrue, fsep, fex}
use lib.Dec.{T}
use mir.Val.{Val, vunit, has_ty, WT}
use prog.Wp.{WpFn}
use types.Kit.{‵, raw, ◌⊛◌, some, later, prop, ◌$◌, ◌∵◌, !, qed, done, move, drop, use1, use2, split, join, fsplit, fjoin, fpack, pick, await, regoal, suffices, feq_i, group}
use types.Run.{enter, of_opd, unit_lit, init, stop, no_more, and_then, assigns, returns}
use types.ByLocal.{alloc_all, pass_all, free_all, look_at, get, through, sets, lands_as}
use contract.Monad.{fact}
use contract.Running.{tables}
use denote.Builtin.{u32, u64}
use denote.Exit.{yes}
use denote.Laws.{Is, shows}
use denote.Memory.{part_at}
use denote.Param.{layout}
use denote.Plain.{uint_vals, uint_Tells}
use denote.RattleType.{owns}
use denote.RawPtr.{Ptr, RawPtr, block_ptr, lies_at, room_at, in_a_block, rawptr_vals, rawptr_Tells}
use denote.Signature.{plain}
use denote.Steps.{nothing, peeks, heard}
use Rattle.zangipuk_c.specs.declared.held.Held.{Held}
use denote.Triple.Call.{calls_at}
use denote.Triple.Clauses.{Lasts, lasts}
use denote.Triple.Spec.{triple_of}
use denote.Triple.Walked.{Stays, walk_of, stay_dropped, Goes-dropped, ends_at}
use borrow.Table.OneValue.{part_in}
use denote.Triple.Table.{framed}
use Rattle.zangipuk_c.specs.Continues.{IsFresh, options_by}
use Rattle.zangipuk_c.specs.contracts.held.Held.{the_row as R}
use Rattle.zangipuk_c.proofs.held.Held.TheLaws.{the_row_laws as LR}
use Rattle.std.specs.contracts.alloc.Global.{the_row as Z}
use Rattle.std.proofs.alloc.Global.TheLaws.{the_row_laws as LZ, lowers}
use Rattle.zangipuk_c.specs.contracts.held.make as g
use Rattle.zangipuk_c.proofs.held.make.Met.{met}
use Rattle.zangipuk_c.specs.contracts.exports.zangipuk_open as f
use Rattle.zangipuk_c.proofs.exports.zangipuk_open.Statement.{statement}
use Rattle.zangipuk_c.proofs.exports.zangipuk_open.Code as code

abbrev stayed : Stays f.ended.signature.params f.ended.kept
stayed = (stay_dropped _ yes, (stay_dropped _ yes, (stay_dropped _ yes, (stay_dropped _ yes, (stay_dropped _ yes, (stay_dropped _ yes, (stay_dropped _ yes, (stay_dropped _ yes, tt))))))))

-- the allocator takes no bytes, and is a machine value all the same
abbrev heap_vals : Z.Denot → List Val
heap_vals d = lowers.lowered d ∷ []

pub zangipuk_open_spec : {M : Type 1} → statement M
zangipuk_open_spec 𝓤 𝓛 𝓜 𝓡 wired =
    let c = f.clauses 𝓛 𝓜.mem 𝓡.returns in let W = walk_of 𝓛 f.ended stayed c in let 𝓣 = tables 𝓤 𝓛.H 𝓜 𝓡 𝓡.env in
    let g32 = Goes-dropped 𝓛 0 (plain (λ _. u32)) yes (λ κs x w. refl) in let g64 = Goes-dropped 𝓛 0 (plain (λ _. u64)) yes (λ κs x w. refl) in
    proved 𝓛 f.ended stayed c 𝓜 𝓡 (Goes-dropped 𝓛 0 (plain (λ _. Z)) yes (λ κs x w. refl), (Goes-dropped 𝓛 0 (plain (λ _. RawPtr)) yes (λ κs x w. refl), (g32, (g32, (g64, (g64, (g64, (g32, tt))))))))
    f.Key.name code.function (code.unfolded 𝓤 𝓛.H 𝓜 𝓡 wired)
    (λ κs. (heap_vals, (rawptr_vals, (uint_vals w32, (uint_vals w32, (uint_vals w64, (uint_vals w64, (uint_vals w64, (uint_vals w32, tt)))))))))
    (λ κs. (lowers.val_is, (rawptr_Tells, (uint_Tells w32, (uint_Tells w32, (uint_Tells w64, (uint_Tells w64, (uint_Tells w64, (uint_Tells w32, tt)))))))))
    (λ κs qs bounds a ghosts are.
    let y : Ptr → W.Ghost = λ p. ((κs, qs, bounds, (a.0, (p, a.1.1)), (heap_vals a.0, (rawptr_vals p, (uint_vals w32 a.1.1.0, (uint_vals w32 a.1.1.1.0, (uint_vals w64 a.1.1.1.1.0, (uint_vals w64 a.1.1.1.1.1.0, (uint_vals w64 a.1.1.1.1.1.1.0, (uint_vals w32 a.1.1.1.1.1.1.1.0, tt))))))))), ghosts) in
    let G = triple_of 𝓛 g.signature (g.spec 𝓛 𝓜.mem 𝓡.returns) in
    let numbers : Fml = owns (u32 ∷ u32 ∷ u64 ∷ u64 ∷ u64 ∷ u32 ∷ []) a.1.1 (y a.1.0).0.4.1.1 in
    let z : G.Ghost = ((κs, qs, tt, (a.0, a.1.1), (heap_vals a.0, (y a.1.0).0.4.1.1)), tt) in
    qed 𝓛 ((‵ ftrue ⊛ ‵ (fsep (Z.own_val a.0 (heap_vals a.0)) (fsep (RawPtr.own_val a.1.0 (rawptr_vals a.1.0)) numbers))) ∷ ‵ (room_at R a.1.0) ∷ []) ∵
    split ! $ drop ! $ fsplit ! $ move ! (1 ∷ []) $ fsplit ! $ drop ! $ move ! (1 ∷ 0 ∷ []) $ fjoin ! $ move ! (1 ∷ []) $
    -- [the room; what the allocator and the numbers own]
    in_a_block ! a.1.0 (λ p. room_at R p) (id⊢ 𝓤 _) (λ b o e.
    regoal ! (λ p. prop (WpFn 𝓤 𝓛.H 𝓣.C 𝓣.Λ code.function (heap_vals a.0 ++ (rawptr_vals p ++ (uint_vals w32 a.1.1.0 ++ (uint_vals w32 a.1.1.1.0 ++ (uint_vals w64 a.1.1.1.1.0 ++ (uint_vals w64 a.1.1.1.1.1.0 ++ (uint_vals w64 a.1.1.1.1.1.1.0 ++ (uint_vals w32 a.1.1.1.1.1.1.1.0 ++ [])))))))) (W.post (y p)))) e refl $
    enter ! _ _ _ _ _ $ alloc_all ! (λ l. pass_all ! refl (((LZ.lawful 𝓛).typed a.0 (heap_vals a.0) are.0).0, ((tt, tt), ((tt, record { fits = are.1.1.0.1 }), ((tt, record { fits = are.1.1.1.0.1 }), ((tt, record { fits = are.1.1.1.1.0.1 }), ((tt, record { fits = are.1.1.1.1.1.0.1 }), ((tt, record { fits = are.1.1.1.1.1.1.0.1 }), ((tt, record { fits = are.1.1.1.1.1.1.1.0.1 }), tt)))))))) $
    move ! (1 ∷ []) $ nothing ! $ join ! $ nothing ! $ move ! (1 ∷ 0 ∷ []) $ use2 𝓛 (raw (G.pre z)) (id⊢ 𝓤 _) $
    calls_at ! (framed 𝓤 𝓛.H 𝓜 𝓣) G (met 𝓤 𝓛 𝓜 𝓡 (code.calls-zangipuk_c::held::make 𝓡.env wired)) z
    (and_then ! (get ! refl) (and_then ! (get ! refl) (and_then ! (get ! refl) (and_then ! (get ! refl) (and_then ! (get ! refl) (and_then ! (get ! refl) (and_then ! (get ! refl) (no_more !)))))))) (λ u.
    use1 𝓛 (later (some (λ (r : Held). (‵ ftrue ⊛ ‵ (R.own_val r (u ∷ []))) ⊛ some (λ (ws : Lasts g.ended κs z.0.3). ‵ (lasts g.ended κs z.0.3 ws) ⊛ raw (fact 𝓤 (IsFresh (options_by a.1.1.0 a.1.1.1.0 a.1.1.1.1.0 a.1.1.1.1.1.0 a.1.1.1.1.1.1.0) a.1.1.1.1.1.1.1.0 r.pool)))))) (id⊢ 𝓤 _) $
    await ! tt $ pick ! (λ r. split ! $ move ! (1 ∷ []) $ pick ! (λ ws. split ! $ drop ! $ heard ! (IsFresh (options_by a.1.1.0 a.1.1.1.0 a.1.1.1.1.0 a.1.1.1.1.1.0 a.1.1.1.1.1.1.0) a.1.1.1.1.1.1.1.0 r.pool) (λ fresh. split ! $ drop ! $
    -- [what the pool owns; the room]
    peeks ! R (Is R) (shows 𝓛 R) r (u ∷ []) (λ is.
    let t : T (has_ty (layout R) u) × WT u = ((LR.lawful 𝓛).typed r (u ∷ []) is).0 in
    lands_as ! refl refl t $
    sets ! (of_opd ! (get ! refl)) refl (tt, tt) $
    sets ! (of_opd ! (get ! refl)) refl t $
    assigns ! (of_opd ! (get ! refl)) (through ! refl (stop !)) (init ! 1 refl t) $
    sets ! (of_opd ! (unit_lit !)) refl (tt, tt) $
    returns ! (look_at ! 0 refl) $ free_all ! refl $
    move ! (1 ∷ 0 ∷ []) $ use2 𝓛 (‵ (part_at R full_share r b o)) (part_in 𝓛 R refl full_share r b o u) $
    nothing ! $ fpack ! (IsFresh (options_by a.1.1.0 a.1.1.1.0 a.1.1.1.1.0 a.1.1.1.1.1.0 a.1.1.1.1.1.1.0) a.1.1.1.1.1.1.1.0 r.pool) (λ _. ftrue) fresh $ move ! (1 ∷ 0 ∷ []) $ fjoin ! $
    fpack ! Held (λ (x : Held). fsep (lies_at R full_share (block_ptr b o) x) (fex (IsFresh (options_by a.1.1.0 a.1.1.1.0 a.1.1.1.1.0 a.1.1.1.1.1.0 a.1.1.1.1.1.1.0) a.1.1.1.1.1.1.1.0 x.pool) (λ _. ftrue))) r $ feq_i ! (List Val) (vunit ∷ []) (vunit ∷ []) refl $
    suffices ! _ (ends_at 𝓛 f.ended stayed c (y (block_ptr b o)) vunit tt (tt, (tt, (tt, (tt, (tt, (tt, (tt, (tt, tt)))))))) (tt, (tt, (tt, (tt, (tt, (tt, (tt, (tt, tt))))))))) $
    nothing ! $ nothing ! $ join ! $ nothing ! $ join ! $ nothing ! $ join ! $ nothing ! $ join ! $ nothing ! $ join ! $ nothing ! $ join ! $ nothing ! $ join ! $
    nothing ! $ join ! $ nothing ! $ group ! 3 $ done !))))))))
