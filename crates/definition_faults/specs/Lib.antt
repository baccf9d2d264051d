pub mod RecordFaults
