-- One name that opens every definition, for cases that are computed.
use Rattle.std.specs.Fmt.{digits}
use Rattle.std.specs.Int.{int_wrap}
use Rattle.class_grammar.specs.Flags.{opened_flags}
use Rattle.jx_base.specs.Basics.{opened_basics}
use Rattle.jx_base.specs.Histories.{opened_histories}
use Rattle.jx_model.specs.Journal.{opened_journal}
use Rattle.program_model.specs.Ranges.{opened_ranges}
use Rattle.class_grammar.specs.Opcodes.{opened_opcodes}
use Rattle.program_model.specs.Instructions.{opened_instructions}
use Rattle.program_model.specs.Arithmetic.{opened_arithmetic}
use Rattle.program_model.specs.Types.{opened_types}
use Rattle.program_model.specs.BuiltIn.{opened_built_in}
use Rattle.program_model.specs.Lookup.{opened_lookup}
use Rattle.program_model.specs.ParcelParts.{opened_parcel_parts}
use Rattle.program_model.specs.Parcels.{opened_parcels}
use Rattle.machine_model.specs.NumericRows.{opened_numeric_rows}
use Rattle.machine_model.specs.State.{opened_state}
use Rattle.machine_model.specs.BuiltInMethods.{opened_built_in_methods}
use Rattle.machine_model.specs.ObjectRows.{opened_object_rows}
use Rattle.machine_model.specs.MachineThreads.{opened_machine_threads}
use Rattle.machine_model.specs.Start.{opened_start}
use Rattle.machine_model.specs.Running.{opened_running}
use Rattle.machine_model.specs.AfterEntry.{opened_after_entry}
use Rattle.machine_model.specs.Machine.{opened_machine}
use Rattle.machine_model.specs.Conditions.{opened_conditions}
use Rattle.program_model.specs.Plans.{opened_plans}
use Rattle.link_model.specs.ClassFiles.{opened_class_files}
use Rattle.link_model.specs.Linking.{opened_linking}
use Rattle.link_model.specs.LinkFaults.{opened_link_faults}
use Rattle.program_model.specs.Limits.{opened_limits}
use Rattle.jx_model.specs.Domains.{opened_domains}
use Rattle.jx_model.specs.Threads.{opened_threads}
use Rattle.jx_model.specs.Portals.{opened_portals}
use Rattle.jx_model.specs.Calls.{opened_calls}
use Rattle.jx_model.specs.MemoryObjects.{opened_memory_objects}
use Rattle.jx_model.specs.Holding.{opened_holding}
use Rattle.jx_model.specs.Granules.{opened_granules}
use Rattle.jx_model.specs.Bytes.{opened_bytes}
use Rattle.jx_model.specs.Replies.{opened_replies}
use Rattle.jx_model.specs.WellMade.{opened_well_made}
use Rattle.jx_model.specs.Permits.{opened_permits}
use Rattle.jx_model.specs.WhyNot.{opened_why_not}
use Rattle.jx_model.specs.SingleWorker.{opened_single_worker}
use Rattle.audit_model.specs.Audit.{opened_audit}
use Rattle.audit_model.specs.AuditText.{opened_audit_text}
use Rattle.audit_model.specs.Summary.{opened_summary}

-- what a computed case opens
unfoldable pub opened_model : Unit {0}
unfolding digits int_wrap opened_basics opened_flags opened_histories opened_journal opened_ranges opened_opcodes opened_instructions opened_arithmetic opened_types opened_built_in opened_lookup opened_parcel_parts opened_parcels opened_numeric_rows opened_state opened_built_in_methods opened_object_rows opened_machine_threads opened_start opened_running opened_after_entry opened_machine opened_conditions opened_plans opened_class_files opened_linking opened_link_faults opened_limits opened_domains opened_threads opened_portals opened_calls opened_memory_objects opened_holding opened_granules opened_bytes opened_replies opened_well_made opened_permits opened_why_not opened_single_worker opened_audit opened_audit_text opened_summary
opened_model = tt
