pub mod Download
