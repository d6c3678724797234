-- A step reads what lies in the room, steps, and writes it back.
use Rattle.std.proofs.Common.{◌≡◌, List, [], ◌∷◌, ◌++◌, refl, ap, ◌∙◌, subst, w32, w64}
use Rattle.std.proofs.raw_atomic.Walks.{proved}
use base.Fraction.{full_share}
use base.Logic.{id⊢}
use base.Fml.{Fml, ftrue, fsep, fex, fat}
use lib.Dec.{T}
use mir.Val.{Val, vstruct, of_list, has_ty, WT}
use prog.Wp.{WpFn}
use types.Kit.{‵, raw, ◌⊛◌, some, later, prop, ◌$◌, ◌∵◌, !, qed, done, move, drop, use1, use2, split, join, fsplit, fjoin, fpick, fpack, pick, await, rewrite, regoal, suffices, feq_l, group}
use types.Run.{enter, of_opd, load, look, store, stop, fld, no_more, and_then, assigns, returns}
use types.ByLocal.{alloc_all, pass_all, free_all, look_at, get, get_in, through, sets, lands_as}
use types.Part.{sub, whole}
use contract.Monad.{fact}
use contract.Running.{tables}
use denote.Builtin.{u32, u64}
use denote.Exit.{yes}
use denote.Laws.{Is, shows}
use denote.Memory.{part_at}
use denote.Param.{layout}
use denote.Plain.{uint_vals, uint_Tells}
use denote.RattleType.{RattleType, owns}
use denote.RawPtr.{Ptr, RawPtr, block_ptr, lies_at, in_a_block, rawptr_vals, rawptr_Tells}
use denote.Signature.{plain}
use denote.Steps.{nothing, only, peeks, heard}
use denote.Struct.Members.{Lone}
use denote.Struct.Tuple.{Tuple, tuple_laws}
use denote.Param.Laws.{Laws}
use Rattle.zangipuk_c.specs.declared.held.Held.{Held}
use denote.Triple.Call.{calls_at}
use denote.Triple.Clauses.{Lasts, lasts}
use denote.Triple.Spec.{triple_of}
use denote.Triple.Walked.{Stays, walk_of, stay_dropped, Goes-dropped, ends_at}
use borrow.Table.OneValue.{part_out, part_in}
use denote.Triple.Table.{framed}
use Rattle.zangipuk_c.specs.Steps.{Steps, told_by}
use Rattle.zangipuk_c.specs.contracts.held.Held.{the_row as R}
use Rattle.zangipuk_c.proofs.held.Held.TheLaws.{the_row_laws as LR}
use Rattle.zangipuk_c.specs.contracts.reply.Reply.{the_row as Answer}
use Rattle.zangipuk_c.proofs.reply.Reply.TheLaws.{the_row_laws as LA}
use Rattle.zangipuk_c.specs.contracts.steps.step as g
use Rattle.zangipuk_c.proofs.steps.step.Met.{met}
use Rattle.zangipuk_c.specs.contracts.exports.zangipuk_step as f
use Rattle.zangipuk_c.proofs.exports.zangipuk_step.Statement.{statement}
use Rattle.zangipuk_c.proofs.exports.zangipuk_step.Code as code

abbrev stayed : Stays f.ended.signature.params f.ended.kept
stayed = (stay_dropped _ yes, (stay_dropped _ yes, (stay_dropped _ yes, (stay_dropped _ yes, (stay_dropped _ yes, (stay_dropped _ yes, (stay_dropped _ yes, tt)))))))

abbrev Both : RattleType
Both = Tuple (R ∷ Answer ∷ [])

LB : Laws Both
LB = tuple_laws (R ∷ Answer ∷ []) (LR, (LA, tt))

-- a type of one machine value
Lone-is : (vs : List Val) → Lone vs → vs ≡ only vs ∷ []
Lone-is [] l = absurd l
Lone-is (v ∷ []) l = refl
Lone-is (v ∷ u ∷ us) l = absurd l

pub zangipuk_step_spec : {M : Type 1} → statement M
zangipuk_step_spec 𝓤 𝓛 𝓜 𝓡 wired =
    let c = f.clauses 𝓛 𝓜.mem 𝓡.returns in let W = walk_of 𝓛 f.ended stayed c in let 𝓣 = tables 𝓤 𝓛.H 𝓜 𝓡 𝓡.env in
    let g32 = Goes-dropped 𝓛 0 (plain (λ _. u32)) yes (λ κs x w. refl) in let g64 = Goes-dropped 𝓛 0 (plain (λ _. u64)) yes (λ κs x w. refl) in
    proved 𝓛 f.ended stayed c 𝓜 𝓡 (Goes-dropped 𝓛 0 (plain (λ _. RawPtr)) yes (λ κs x w. refl), (g32, (g32, (g64, (g64, (g64, (g64, tt)))))))
    f.Key.name code.function (code.unfolded 𝓤 𝓛.H 𝓜 𝓡 wired)
    (λ κs. (rawptr_vals, (uint_vals w32, (uint_vals w32, (uint_vals w64, (uint_vals w64, (uint_vals w64, (uint_vals w64, tt))))))))
    (λ κs. (rawptr_Tells, (uint_Tells w32, (uint_Tells w32, (uint_Tells w64, (uint_Tells w64, (uint_Tells w64, (uint_Tells w64, tt))))))))
    (λ κs qs bounds a h are.
    let y : Ptr → W.Ghost = λ p. ((κs, qs, bounds, (p, a.1), (rawptr_vals p, (uint_vals w32 a.1.0, (uint_vals w32 a.1.1.0, (uint_vals w64 a.1.1.1.0, (uint_vals w64 a.1.1.1.1.0, (uint_vals w64 a.1.1.1.1.1.0, (uint_vals w64 a.1.1.1.1.1.1.0, tt)))))))), h) in
    let G = triple_of 𝓛 g.signature (g.spec 𝓛 𝓜.mem 𝓡.returns) in
    let numbers : Fml = owns (u32 ∷ u32 ∷ u64 ∷ u64 ∷ u64 ∷ u64 ∷ []) a.1 (y a.0).0.4.1 in
    qed 𝓛 ((‵ ftrue ⊛ ‵ (fsep (RawPtr.own_val a.0 (rawptr_vals a.0)) numbers)) ∷ ‵ (lies_at R full_share a.0 h) ∷ []) ∵
    split ! $ drop ! $ fsplit ! $ drop ! $ move ! (1 ∷ []) $
    -- [what lies in the room; what the numbers own]
    in_a_block ! a.0 (λ p. lies_at R full_share p h) (id⊢ 𝓤 _) (λ b o e.
    regoal ! (λ p. prop (WpFn 𝓤 𝓛.H 𝓣.C 𝓣.Λ code.function (rawptr_vals p ++ (uint_vals w32 a.1.0 ++ (uint_vals w32 a.1.1.0 ++ (uint_vals w64 a.1.1.1.0 ++ (uint_vals w64 a.1.1.1.1.0 ++ (uint_vals w64 a.1.1.1.1.1.0 ++ (uint_vals w64 a.1.1.1.1.1.1.0 ++ []))))))) (W.post (y p)))) e refl $
    use1 𝓛 (some (λ (v : Val). ‵ (fat full_share (layout R) b o v) ⊛ ‵ (R.own_val h (v ∷ [])))) (part_out 𝓛 R refl full_share h b o) $ pick ! (λ v. split ! $ move ! (1 ∷ []) $
    peeks ! R (Is R) (shows 𝓛 R) h (v ∷ []) (λ is.
    let t : T (has_ty (layout R) v) × WT v = ((LR.lawful 𝓛).typed h (v ∷ []) is).0 in
    -- [what it owns; its cell; what the numbers own]
    enter ! _ _ _ _ _ $ alloc_all ! (λ l. pass_all ! refl ((tt, tt), ((tt, record { fits = are.1.0.1 }), ((tt, record { fits = are.1.1.0.1 }), ((tt, record { fits = are.1.1.1.0.1 }), ((tt, record { fits = are.1.1.1.1.0.1 }), ((tt, record { fits = are.1.1.1.1.1.0.1 }), ((tt, record { fits = are.1.1.1.1.1.1.0.1 }), tt))))))) $
    sets ! (of_opd ! (get ! refl)) refl (tt, tt) $
    sets ! (of_opd ! (load ! (through ! refl (stop !)) (look ! 1 refl))) refl t $
    let z : G.Ghost = ((κs, qs, tt, (h, a.1), (v ∷ [], (y a.0).0.4.1)), tt) in
    move ! (0 ∷ 2 ∷ []) $ fjoin ! $ nothing ! $ join ! $ nothing ! $ move ! (1 ∷ 0 ∷ []) $ use2 𝓛 (raw (G.pre z)) (id⊢ 𝓤 _) $
    calls_at ! (framed 𝓤 𝓛.H 𝓜 𝓣) G (met 𝓤 𝓛 𝓜 𝓡 (code.calls-zangipuk_c::steps::step 𝓡.env wired)) z
    (and_then ! (get ! refl) (and_then ! (get ! refl) (and_then ! (get ! refl) (and_then ! (get ! refl) (and_then ! (get ! refl) (and_then ! (get ! refl) (and_then ! (get ! refl) (no_more !)))))))) (λ u.
    use1 𝓛 (later (some (λ (r : Both.Denot). (‵ ftrue ⊛ ‵ (Both.own_val r (u ∷ []))) ⊛ some (λ (ws : Lasts g.ended κs z.0.3). ‵ (lasts g.ended κs z.0.3 ws) ⊛ raw (fact 𝓤 (Steps a.1.0 (told_by a.1.1.0 a.1.1.1.0 a.1.1.1.1.0 a.1.1.1.1.1.0 a.1.1.1.1.1.1.0) h.pool r.0.pool r.1)))))) (id⊢ 𝓤 _) $
    await ! tt $ pick ! (λ r. split ! $ move ! (1 ∷ []) $ pick ! (λ ws. split ! $ drop ! $ heard ! (Steps a.1.0 (told_by a.1.1.0 a.1.1.1.0 a.1.1.1.1.0 a.1.1.1.1.1.0 a.1.1.1.1.1.1.0) h.pool r.0.pool r.1) (λ goes. split ! $ drop ! $
    -- [the pool and the answer; the cell]
    peeks ! Both (Is Both) (shows 𝓛 Both) r (u ∷ []) (λ is_both. fpick ! (λ vss. fsplit ! $ feq_l ! (λ eu. fsplit ! $
    peeks ! R (Is R) (shows 𝓛 R) r.0 vss.0 (λ is_pool. move ! (1 ∷ []) $ fsplit ! $ move ! (1 ∷ []) $ drop ! $
    peeks ! Answer (Is Answer) (shows 𝓛 Answer) r.1 vss.1.0 (λ is_answer.
    let n0 : Val = only vss.0 in let n1 : Val = only vss.1.0 in
    let e0 : vss.0 ≡ n0 ∷ [] = Lone-is vss.0 (LR.single r.0 vss.0 is_pool) in let e1 : vss.1.0 ≡ n1 ∷ [] = Lone-is vss.1.0 (LA.single r.1 vss.1.0 is_answer) in
    let pair : Val = vstruct (of_list (n0 ∷ n1 ∷ [])) in
    let is_pair : u ≡ pair = ap only (eu ∙ (λ j. vstruct (of_list (e0 j ++ (e1 j ++ []))) ∷ [])) in
    let t0 : T (has_ty (layout R) n0) × WT n0 = ((LR.lawful 𝓛).typed r.0 (n0 ∷ []) (subst (λ (us : List Val). Is R r.0 us) e0 is_pool)).0 in
    let t1 : T (has_ty (layout Answer) n1) × WT n1 = ((LA.lawful 𝓛).typed r.1 (n1 ∷ []) (subst (λ (us : List Val). Is Answer r.1 us) e1 is_answer)).0 in
    let tp : T (has_ty (layout Both) pair) × WT pair = subst (λ (s : Val). T (has_ty (layout Both) s) × WT s) is_pair (((LB.lawful 𝓛).typed r (u ∷ []) is_both).0) in
    rewrite ! 0 (λ (us : List Val). ‵ (Answer.own_val r.1 us)) e1 refl $ rewrite ! 1 (λ (us : List Val). ‵ (R.own_val r.0 us)) e0 refl $
    lands_as ! is_pair refl tp $
    sets ! (of_opd ! (get_in ! (fld ! refl (stop !)) (sub ! 0 refl (whole !)))) refl t0 $
    assigns ! (of_opd ! (get ! refl)) (through ! refl (stop !)) (store ! 2 refl t0) $
    sets ! (of_opd ! (get_in ! (fld ! refl (stop !)) (sub ! 1 refl (whole !)))) refl t1 $
    returns ! (look_at ! 0 refl) $ free_all ! refl $
    -- [the answer; what the pool owns; its cell]
    move ! (2 ∷ 1 ∷ []) $ use2 𝓛 (‵ (part_at R full_share r.0 b o)) (part_in 𝓛 R refl full_share r.0 b o n0) $
    nothing ! $ fpack ! (Steps a.1.0 (told_by a.1.1.0 a.1.1.1.0 a.1.1.1.1.0 a.1.1.1.1.1.0 a.1.1.1.1.1.1.0) h.pool r.0.pool r.1) (λ _. ftrue) goes $ move ! (1 ∷ 0 ∷ []) $ fjoin ! $
    fpack ! Held (λ (x : Held). fsep (lies_at R full_share (block_ptr b o) x) (fex (Steps a.1.0 (told_by a.1.1.0 a.1.1.1.0 a.1.1.1.1.0 a.1.1.1.1.1.0 a.1.1.1.1.1.1.0) h.pool x.pool r.1) (λ _. ftrue))) r.0 $ move ! (1 ∷ []) $
    suffices ! _ (ends_at 𝓛 f.ended stayed c (y (block_ptr b o)) n1 r.1 (tt, (tt, (tt, (tt, (tt, (tt, (tt, tt))))))) (tt, (tt, (tt, (tt, (tt, (tt, (tt, tt)))))))) $
    nothing ! $ nothing ! $ join ! $ nothing ! $ join ! $ nothing ! $ join ! $ nothing ! $ join ! $ nothing ! $ join ! $ nothing ! $ join ! $ nothing ! $ join ! $
    nothing ! $ group ! 3 $ done !))))))))))))))
