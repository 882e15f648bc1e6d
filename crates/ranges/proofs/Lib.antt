pub mod RangeMagnitudes
